-- What a part of an elimination hands on.
-- `unsolvable` where it met an equation without variables whose constant is not 0
pub data Result (A : Type 0) : Type 0 where
  unsolvable : Result A
  ok : A → Result A
