-- Demand 3, sentence by sentence, of everything that the gatherer does with whole steps over good tables.
-- `history_of early t acts v` is vector v's part of `happens early t (begin t) acts`: its events are those labelled with v.
-- An event owns a write where it is the first event after it: `Waits x a` says that no event follows the write x in `a`.
-- Assumes nothing.
use Rattle.std.specs.Prelude.{◌≡◌, ◌↔◌, Bool, true, List, [], ◌∷◌, ◌++◌, map, ℕ, ◌<◌, length, get_or}
use Rattle.rules.specs.Vector.{Write, Cause, rewritten, complete, ended, Item, wrote, shown}
use Rattle.rules.specs.Gather.{Tables, width, Act, time, step_end, ends, begin, elem, happens, told}
use Rattle.rules.specs.Gather.Laws.{Distinct, state_after}
use Rattle.rules.specs.Gather.Echo.{echo, echoes}
use Rattle.rules.specs.Gather.Firsts.{firsts}
use Rattle.rules.specs.Gather.Order.{marked, end_events, written, before_end}
use Rattle.rules.specs.History.{is_event, writes_bit, Without, heard}
use Rattle.rules.specs.History.Laws.{IsFirst, Waits}
use Rattle.rules.specs.Owned.Laws.{EventFirst}
use Rattle.rules.specs.Literal.{ByRewrite, ByCompletion, ByEnd}
use Rattle.rules.specs.Steps.{Writes}
use Rattle.rules.specs.Steps.Owned.{history_of}
use Rattle.rules.specs.Steps.Ends.{StepOf}

-- `early` is rule (c)'s test of the width
pub record Demand3 (early : ℕ → Bool) (t : Tables) (acts : List Act) : Type 0 where
  -- "every write of a vector bit belongs to exactly one event: the first event of that vector after the write, by the end of the write's step"
  pub first_event : (v : ℕ) (a : List Item) (x : Write) (b : List Item) → history_of early t acts v ≡ a ++ wrote x ∷ b → EventFirst b
  -- .. "exactly one"
  pub one_event : (v : ℕ) (a : List Item) (x : Write) (b : List Item) → history_of early t acts v ≡ a ++ wrote x ∷ b
      → (m n : List Item) (c d : Cause) (l u : List ℕ) (r s : List Item) → IsFirst b m c l r → IsFirst b n d u s → (m ≡ n) × (c ≡ d) × (l ≡ u) × (r ≡ s)
  -- "Each vector event owns at least one write ..
  pub owns_some : (v : ℕ) (a : List Item) (c : Cause) (l : List ℕ) (b : List Item) → history_of early t acts v ≡ a ++ shown c l ∷ b → (x : Write) × Waits x a
  -- .. and never two different values of one bit."
  pub one_value : (v : ℕ) (a : List Item) (c : Cause) (l : List ℕ) (b : List Item) → history_of early t acts v ≡ a ++ shown c l ∷ b
      → (x y : Write) → Waits x a → Waits y a → x.bit ≡ y.bit → x.value ≡ y.value
  -- it shows a value for each bit of its vector
  pub shows_all : (v : ℕ) (a : List Item) (c : Cause) (l : List ℕ) (b : List Item) → history_of early t acts v ≡ a ++ shown c l ∷ b → length l ≡ width t v
  -- "Each of its bits shows the last write it owns for that bit; ..
  pub shows_last : (v : ℕ) (a : List Item) (x : Write) (m : List Item) (c : Cause) (l : List ℕ) (b : List Item) → history_of early t acts v ≡ a ++ wrote x ∷ (m ++ shown c l ∷ b)
      → Without is_event m → Without (writes_bit x.bit) m → get_or l x.bit 0 ≡ x.value
  -- .. owning none, what the vector's previous event showed, ..
  pub shows_previous : (v : ℕ) (a : List Item) (d : Cause) (u : List ℕ) (m : List Item) (c : Cause) (l : List ℕ) (b : List Item)
      → history_of early t acts v ≡ a ++ shown d u ∷ (m ++ shown c l ∷ b) → Without is_event m → (k : ℕ) → k < width t v → Without (writes_bit k) m → get_or l k 0 ≡ get_or u k 0
  -- .. and zero before any."
  pub shows_zero : (v : ℕ) (m : List Item) (c : Cause) (l : List ℕ) (b : List Item) → history_of early t acts v ≡ m ++ shown c l ∷ b
      → Without is_event m → (k : ℕ) → k < width t v → Without (writes_bit k) m → get_or l k 0 ≡ 0
  -- "An event before the step's end is made only by the two early rules." (a): "that bit was written since the vector's last event and the new value differs"
  pub made_by_a : (v : ℕ) (a : List Item) (l : List ℕ) (b : List Item) → history_of early t acts v ≡ a ++ shown rewritten l ∷ b → ByRewrite a b
  -- (c): the test of the width passes, "and every bit is marked"
  pub made_by_c : (v : ℕ) (a : List Item) (l : List ℕ) (b : List Item) → history_of early t acts v ≡ a ++ shown complete l ∷ b → ByCompletion (early (width t v)) (width t v) a
  pub made_at_end : (v : ℕ) (a : List Item) (l : List ℕ) (b : List Item) → history_of early t acts v ≡ a ++ shown ended l ∷ b → ByEnd b
  -- no act is dropped or made up: on the whole, and for each vector
  pub nothing_lost : echoes (happens early t (begin t) acts) ≡ map (echo t) acts
  pub nothing_lost_of : (v : ℕ) → heard (history_of early t acts v) ≡ told t v acts
  -- "At step end each vector with marks makes one event, in order of its first write in the step, early events notwithstanding."
  pub every_end : (a rest : List Act) → acts ≡ a ++ step_end ∷ rest → (earlier : List Act) × (u : ℕ) × (ws : List Act) × (a ≡ earlier ++ time u ∷ ws) × Writes ws
  pub at_end : (earlier : List Act) (u : ℕ) (ws rest : List Act) → StepOf acts earlier u ws rest → happens early t (begin t) acts
      ≡ happens early t (begin t) (earlier ++ time u ∷ ws)
      ++ (end_events (before_end early t (begin t) earlier u ws).vecs (firsts (written t ws)) ++ ends ∷ happens early t (state_after early t (before_end early t (begin t) earlier u ws) (step_end ∷ [])) rest)
  pub who_ends : (earlier : List Act) (u : ℕ) (ws rest : List Act) → StepOf acts earlier u ws rest → (v : ℕ)
      → (elem v (marked (before_end early t (begin t) earlier u ws).vecs (firsts (written t ws))) ≡ true) ↔ ((x : Write) × Waits x (history_of early t (earlier ++ time u ∷ ws) v))
  pub ends_once : (earlier : List Act) (u : ℕ) (ws rest : List Act) → StepOf acts earlier u ws rest → Distinct (marked (before_end early t (begin t) earlier u ws).vecs (firsts (written t ws)))
