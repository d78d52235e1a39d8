-- The two cases of a `Result` are apart, and `ok` keeps what it holds.
use mathlib.Core.Path.{◌≡◌, refl, sym, ap, subst}
use Rattle.gf2.specs.Result.{Result, unsolvable, ok}

Is_ok : {A : Type 0} → Result A → Type 0
Is_ok unsolvable = ⊥
Is_ok (ok a) = Unit {0}

pub unsolvable≢ok : {A : Type 0} {a : A} → unsolvable ≡ ok a → ⊥
unfolding Is_ok
unsolvable≢ok e = subst Is_ok (sym e) tt

held : {A : Type 0} → A → Result A → A
held d unsolvable = d
held d (ok a) = a

pub ok_same : {A : Type 0} {a b : A} → ok a ≡ ok b → a ≡ b
unfolding held
ok_same {a = a} e = ap (held a) e

-- a result is one of the two
pub data Case {A : Type 0} (r : Result A) : Type 0 where
  refused : r ≡ unsolvable → Case r
  gave : (a : A) → r ≡ ok a → Case r

pub which : {A : Type 0} (r : Result A) → Case r
which unsolvable = refused refl
which (ok a) = gave a refl
