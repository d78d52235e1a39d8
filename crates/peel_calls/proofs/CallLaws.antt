-- A peeler's call: what is refused before the run, and what the run leaves.
use mathlib.Core.Path.{◌≡◌, refl, sym, ap, ◌∙◌}
use mathlib.Core.List.{List}
use mathlib.Core.Bool.{Bool, true, false, ◌&&◌, true≢false}
use Prim.Native.Nat.{ℕ}
use lib.ListN.{length}
use Rattle.std.specs.Prelude.{Result, Ok, Err}
use Rattle.std.specs.Result.{IsErrAnd}
use lib.Dec.{eqb, leb, ltb}
use borrow.Author.Tests.{leb-true, ltb-false, eqb-true}
use Rattle.answers.specs.Answers.{refusal_of}
use Rattle.answers.specs.declared.refusal.Refusal.{Refusal}
use Rattle.answers.specs.declared.refusal.Unpeeled.{Unpeeled}
use Rattle.answers.specs.declared.refusal.Unpeeled.TheVariants.{Refused}
use Rattle.answers.specs.Sizes.{max_variables, max_equations}
use Rattle.peeling.specs.declared.numbers.Edge.{Edge}
use Rattle.peel_rules.specs.Edges.{bad_edge}
use Rattle.peel_rules.proofs.PeelTheorems.{all_valid}
use Rattle.peel_gates.specs.Ends.{Peeling, peeling_of}
use Rattle.peel_gates.specs.Rooms.{numbers_room, bytes_room}
use Rattle.peel_gates.specs.Gates.{Gate, gate_of, shut, unrefused}
use Rattle.peel_parts.specs.Parts.{Admitted}
use Rattle.peel_runs.specs.Runs.{Leaves, run_call}
use Rattle.peel_runs.proofs.RunLaws.{leaves}
use Rattle.peel_calls.specs.Judging.{peeling_call}

-- a refusal that `?` hands on
handed_on : (r : Refusal) (x : Result (Unit {0}) Unpeeled) → IsErrAnd x (λ u. u ≡ Refused r) → (shut (refusal_of r)).refusal ≡ peeling_of x
handed_on r (Ok y) e = absurd e
handed_on r (Err u) e = ap (λ (z : Unpeeled). peeling_of {A = Unit {0}} (Err z)) (sym e)

both : (a b : Bool) → (a && b) ≡ true → (a ≡ true) × (b ≡ true)
both true b h = (refl, h)
both false b h = absurd (true≢false (sym h))

module _ (high : Bool) (n : ℕ) (T : List Edge) (cells numbers bytes : List ℕ) where
  abbrev gate : Gate
  gate = gate_of high n (length T) (bad_edge n T) (length cells) (length numbers) (length bytes)

  abbrev sizes : Bool
  sizes = leb n max_variables && leb (length T) max_equations

  abbrev bad : Bool
  bad = ltb (bad_edge n T) (length T)

  abbrev room : Bool
  room = leb (numbers_room high n (length T)) (length numbers) && leb (bytes_room high n (length T)) (length bytes)

  -- a call that is not refused is admitted, and its run is the call
  let_in : gate.opened ≡ true → Admitted high n T cells numbers bytes
      × ((r : Peeling) (x d b : List ℕ) → Leaves (run_call high n T cells numbers bytes) r x d b → Leaves (peeling_call high n T cells numbers bytes) r x d b)
  unfolding peeling_call run_call
  let_in h = go sizes refl bad refl (eqb (length cells) n) refl room refl h
    where
      go : (p : Bool) → sizes ≡ p → (q : Bool) → bad ≡ q → (t : Bool) → eqb (length cells) n ≡ t → (u : Bool) → room ≡ u → gate.opened ≡ true
          → Admitted high n T cells numbers bytes × ((r : Peeling) (x d b : List ℕ) → Leaves (run_call high n T cells numbers bytes) r x d b → Leaves (peeling_call high n T cells numbers bytes) r x d b)
      go false hp q hq t ht u hu o = let k : ◌≡◌ {A = Bool} false true = rw hp at o in absurd (true≢false (sym k))
      go true hp true hq t ht u hu o = let k : ◌≡◌ {A = Bool} false true = rw (hp, hq) at o in absurd (true≢false (sym k))
      go true hp false hq false ht u hu o = let k : ◌≡◌ {A = Bool} false true = rw (hp, hq, ht) at o in absurd (true≢false (sym k))
      go true hp false hq true ht false hu o = let k : ◌≡◌ {A = Bool} false true = rw (hp, hq, ht, hu) at o in absurd (true≢false (sym k))
      go true hp false hq true ht true hu o =
          let z = both (leb n max_variables) (leb (length T) max_equations) hp in
          let y = both (leb (numbers_room high n (length T)) (length numbers)) (leb (bytes_room high n (length T)) (length bytes)) hu in (
            record {
              lent = record {
                n_small = leb-true n max_variables z.0;
                m_small = leb-true (length T) max_equations z.1;
                numbers_room = leb-true (numbers_room high n (length T)) (length numbers) y.0;
                bytes_room = leb-true (bytes_room high n (length T)) (length bytes) y.1;
              };
              valid = all_valid n T (ltb-false (bad_edge n T) (length T) hq);
              size = eqb-true (length cells) n ht;
            },
            λ r x d b l. rw (hp, hq, ht, hu) l,
          )

  -- a call that is refused leaves everything as lent
  turned_away : (r : Peeling) → gate.opened ≡ false → r ≡ gate.refusal → Leaves (peeling_call high n T cells numbers bytes) r cells numbers bytes
  unfolding peeling_call
  turned_away r h e = go sizes refl bad refl (eqb (length cells) n) refl room refl h e
    where
      go : (p : Bool) → sizes ≡ p → (q : Bool) → bad ≡ q → (t : Bool) → eqb (length cells) n ≡ t → (u : Bool) → room ≡ u → gate.opened ≡ false → r ≡ gate.refusal
          → Leaves (peeling_call high n T cells numbers bytes) r cells numbers bytes
      go false hp q hq t ht u hu o k = rw hp (leaves (ap (λ (y : Peeling). y.answer) (rw hp at k)) (ap (λ (y : Peeling). y.report) (rw hp at k)) refl refl refl)
      go true hp true hq t ht u hu o k = rw (hp, hq) (leaves (ap (λ (y : Peeling). y.answer) (rw (hp, hq) at k)) (ap (λ (y : Peeling). y.report) (rw (hp, hq) at k)) refl refl refl)
      go true hp false hq false ht u hu o k = rw (hp, hq, ht) (leaves (ap (λ (y : Peeling). y.answer) (rw (hp, hq, ht) at k)) (ap (λ (y : Peeling). y.report) (rw (hp, hq, ht) at k)) refl refl refl)
      go true hp false hq true ht false hu o k = rw (hp, hq, ht, hu) (leaves (ap (λ (y : Peeling). y.answer) (rw (hp, hq, ht, hu) at k)) (ap (λ (y : Peeling). y.report) (rw (hp, hq, ht, hu) at k)) refl refl refl)
      go true hp false hq true ht true hu o k = let z : ◌≡◌ {A = Bool} true false = rw (hp, hq, ht, hu) at o in absurd (true≢false z)

  -- ---- as the code's gate gives them

  pub admitted : unrefused ≡ gate → Admitted high n T cells numbers bytes
  admitted e = (let_in (sym (ap (λ (y : Gate). y.opened) e))).0

  pub run_is_call : unrefused ≡ gate → {r : Peeling} {x d b : List ℕ} → Leaves (run_call high n T cells numbers bytes) r x d b → Leaves (peeling_call high n T cells numbers bytes) r x d b
  run_is_call e {r} {x} {d} {b} l = (let_in (sym (ap (λ (y : Gate). y.opened) e))).1 r x d b l

  pub refusal_is_call : (r : Refusal) (x : Result (Unit {0}) Unpeeled) → shut (refusal_of r) ≡ gate → IsErrAnd x (λ u. u ≡ Refused r) → Leaves (peeling_call high n T cells numbers bytes) (peeling_of x) cells numbers bytes
  refusal_is_call r x e h = turned_away (peeling_of x) (sym (ap (λ (y : Gate). y.opened) e)) (sym (handed_on r x h) ∙ ap (λ (y : Gate). y.refusal) e)
