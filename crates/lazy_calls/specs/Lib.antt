pub mod LazyCall
