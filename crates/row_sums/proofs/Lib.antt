pub mod SettleRow
