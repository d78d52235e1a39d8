-- Stacks in a lent slice: what a push and a pop answer and leave. A push on a full stack and a head that does not fit are outside the domain, and the state stays.
use Rattle.std.specs.Prelude.{◌≡◌, List, [], ◌∷◌, Bool, ◌&&◌, ℕ, ◌+◌, ◌-◌, Result, Ok, Err, Option, Some, None, length, get_or, set, eqb, leb, ltb}
use Rattle.answers.specs.Calls.{pick}
use Rattle.answers.specs.Numbers.{number_of}
use Rattle.answers.specs.declared.refusal.Refusal.{Refusal}
use Rattle.answers.specs.Answers.{Answer, Solved, OutsideDomain, refusal_of}
use Rattle.peeling.specs.declared.numbers.Vertex.{Vertex}
use Rattle.stack_steps.specs.declared.Head.{Head}

-- a push's answer, and the head after it
pub record Pushed : Type 0 where
  pub head : Head
  pub answer : Answer

-- what a pop finds
pub data Popped : Type 0 where
  Got : Vertex → Popped
  Empty : Popped
  Refused : Answer → Popped

-- what a pop finds, and the head after it
pub record PopStep : Type 0 where
  pub head : Head
  pub got : Popped

-- what the code's result of a pop comes to
abbrev pub popped_of : Result (Option Vertex) Refusal → Popped
popped_of (Ok (Some v)) = Got v
popped_of (Ok None) = Empty
popped_of (Err r) = Refused (refusal_of r)

pub record PushCall : Type 0 where
  pub result : Pushed
  pub stack : List ℕ

abbrev pub pushed : List ℕ → ℕ → ℕ → PushCall
pushed stack lower upper = record { result = record { head = record { lower = lower; upper = upper }; answer = Solved }; stack = stack }

abbrev pub not_pushed : List ℕ → Head → PushCall
not_pushed stack head = record { result = record { head = head; answer = OutsideDomain }; stack = stack }

abbrev pub popped : ℕ → ℕ → ℕ → PopStep
popped v lower upper = record { head = record { lower = lower; upper = upper }; got = Got (record { 0 = v }) }

abbrev pub nothing : Head → PopStep
nothing head = record { head = head; got = Empty }

abbrev pub not_popped : Head → PopStep
not_popped head = record { head = head; got = Refused OutsideDomain }

-- ---- the number and the vertices of a pop

-- an empty stack is inside the domain
abbrev pub popped_number : Popped → ℕ
popped_number (Got v) = 0
popped_number Empty = 0
popped_number (Refused answer) = number_of answer

-- one, or none
abbrev pub popped_vertices : Popped → List ℕ
popped_vertices (Got v) = v.0 ∷ []
popped_vertices Empty = []
popped_vertices (Refused answer) = []

-- 0 and the vertex on top, if there is one; outside the domain 10 and none
pub record PopAnswer (inside : Bool) (top : List ℕ) (got : Popped) : Type 0 where
  pub number : popped_number got ≡ pick inside 0 10
  pub vertices : popped_vertices got ≡ pick inside top []

-- ---- one stack: the cells below `lower`

-- a head that fits its slice, and one that has room besides
abbrev pub fast_fits : List ℕ → Head → Bool
fast_fits s h = leb h.lower (length s)

abbrev pub fast_room : List ℕ → Head → Bool
fast_room s h = ltb h.lower (length s)

abbrev pub lower_top : List ℕ → Head → List ℕ
lower_top s h = pick (eqb h.lower 0) [] (get_or s (h.lower - 1) 0 ∷ [])

abbrev pub fast_push : List ℕ → Head → ℕ → PushCall
fast_push s h v = pick (fast_room s h) (pushed (set s h.lower v) (h.lower + 1) h.upper) (not_pushed s h)

abbrev pub fast_pop : List ℕ → Head → PopStep
fast_pop s h =
    pick (fast_fits s h) (pick (eqb h.lower 0) (nothing h) (popped (get_or s (h.lower - 1) 0) (h.lower - 1) h.upper)) (not_popped h)

-- ---- two stacks: the cells below `lower`, and those from `upper` on

abbrev pub double_fits : List ℕ → Head → Bool
double_fits s h = leb h.upper (length s) && leb h.lower h.upper

abbrev pub double_room : List ℕ → Head → Bool
double_room s h = leb h.upper (length s) && ltb h.lower h.upper

abbrev pub upper_top : List ℕ → Head → List ℕ
upper_top s h = pick (eqb h.upper (length s)) [] (get_or s h.upper 0 ∷ [])

abbrev pub push_lower : List ℕ → Head → ℕ → PushCall
push_lower s h v = pick (double_room s h) (pushed (set s h.lower v) (h.lower + 1) h.upper) (not_pushed s h)

abbrev pub push_upper : List ℕ → Head → ℕ → PushCall
push_upper s h v = pick (double_room s h) (pushed (set s (h.upper - 1) v) h.lower (h.upper - 1)) (not_pushed s h)

abbrev pub pop_lower : List ℕ → Head → PopStep
pop_lower s h =
    pick (double_fits s h)
    (pick (eqb h.lower 0) (nothing h) (popped (get_or s (h.lower - 1) 0) (h.lower - 1) h.upper))
    (not_popped h)

abbrev pub pop_upper : List ℕ → Head → PopStep
pop_upper s h =
    pick (double_fits s h)
    (pick (eqb h.upper (length s)) (nothing h) (popped (get_or s h.upper 0) h.lower (h.upper + 1)))
    (not_popped h)
