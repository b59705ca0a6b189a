-- Demand 3, sentence by sentence, of everything that the gatherer does with whole steps over good tables, and its proof: each sentence a citation.
-- `history_of early t acts v` is vector v's part of `happens early t (begin t) acts`: its events are those labelled with v.
-- An event owns a write where it is the first event after it: `Waits x a` says that no event follows the write x in `a`.
-- Assumes nothing.
use Rattle.std.specs.Prelude.{Bool, List, [], ℕ, replicate}
use Rattle.rules.specs.Vector.{acts_early}
use Rattle.rules.specs.Gather.{Tables, width, Good, Act, begin}
use Rattle.rules.proofs.Gather.Own.{nothing_lost_of}
use Rattle.rules.proofs.Gather.Echo
use Rattle.rules.specs.History.{heard}
use Rattle.rules.proofs.History.Laws.{first_is_one}
use Rattle.rules.specs.Owned.{Owned, Inside}
use Rattle.rules.proofs.Literal
use Rattle.rules.specs.Steps.{Stepped}
use Rattle.rules.specs.Steps.Owned.{history_of}
use Rattle.rules.proofs.Steps.Owned.{owned_steps, inside_history}
use Rattle.rules.proofs.Steps.Ends
use Rattle.rules.specs.Demand3.{Demand3}

module _ (early : ℕ → Bool) (t : Tables) (good : Good t) (acts : List Act) (steps : Stepped acts) where
  meets : (v : ℕ) → Owned (early (width t v)) (width t v) (replicate (width t v) 0) [] (history_of early t acts v)
  meets v = owned_steps early t good v acts steps

  bits : (v : ℕ) → Inside (width t v) (heard (history_of early t acts v))
  bits v = inside_history early t good v acts

  -- in any mode
  pub demand3_in : Demand3 early t acts
  demand3_in = record {
    first_event = λ v. Literal.first_event _ _ _ (meets v) (bits v);
    one_event = λ v a x b e. first_is_one b;
    owns_some = λ v. Literal.owns_some _ _ _ (meets v) (bits v);
    one_value = λ v. Literal.one_value _ _ _ (meets v) (bits v);
    shows_all = λ v. Literal.shows_all _ _ _ (meets v) (bits v);
    shows_last = λ v. Literal.shows_last _ _ _ (meets v) (bits v);
    shows_previous = λ v. Literal.shows_previous _ _ _ (meets v) (bits v);
    shows_zero = λ v. Literal.shows_zero _ _ _ (meets v) (bits v);
    made_by_a = λ v. Literal.made_by_a _ _ _ (meets v) (bits v);
    made_by_c = λ v. Literal.made_by_c _ _ _ (meets v) (bits v);
    made_at_end = λ v. Literal.made_at_end _ _ _ (meets v) (bits v);
    nothing_lost = Echo.nothing_lost early t (begin t) acts;
    nothing_lost_of = λ v. nothing_lost_of early t v acts;
    every_end = Ends.every_end early t acts steps;
    at_end = Ends.at_end early t acts steps;
    who_ends = λ earlier u ws rest step. Ends.who_ends early t acts steps earlier u ws rest step good;
    ends_once = Ends.ends_once early t acts steps;
  }

-- document 01's mode: "the width is at most 7 or a multiple of 8"
pub demand3 : (t : Tables) → Good t → (acts : List Act) → Stepped acts → Demand3 acts_early t acts
demand3 = demand3_in acts_early
