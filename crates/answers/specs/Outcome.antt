-- How a call ends: the answer and what each lent buffer holds, from the outcome.
-- Assumes nothing.
use Rattle.std.specs.Prelude.{ℕ, ◌-◌, List, [], ◌++◌, length, replicate}
use Rattle.answers.specs.declared.Answer.{Answer}
pub mod Laws

-- how a call ends, and the bytes that it reports
pub data Outcome : Type 0 where
  accepted : (read : ℕ) (events values : List ℕ) (steps : ℕ) → Outcome
  refused : (number place : ℕ) → Outcome

-- "An accepted answer has 0, bytes read, event bytes, value bytes and steps"; "a refusal gives a number and a place with all other fields zero"
unfoldable pub answer : Outcome → Answer
answer (accepted i es vs n) = record { number = 0; place = 0; read = i; events = length es; values = length vs; steps = n }
answer (refused n p) = record { number = n; place = p; read = 0; events = 0; values = 0; steps = 0 }

unfoldable pub event_bytes : Outcome → List ℕ
event_bytes (accepted i es vs n) = es
event_bytes (refused n p) = []

unfoldable pub value_bytes : Outcome → List ℕ
value_bytes (accepted i es vs n) = vs
value_bytes (refused n p) = []

-- "Output past the reported bytes is zero."
unfoldable pub padded : ℕ → List ℕ → List ℕ
padded n l = l ++ replicate (n - length l) 0

-- the answer, and what each lent buffer holds: the event and the value room, and the two working buffers
pub record Left : Type 0 where
  pub answer : Answer
  pub events : List ℕ
  pub values : List ℕ
  pub room : List ℕ
  pub list : List ℕ

-- how long each of them is
pub record Lent : Type 0 where
  pub events : ℕ
  pub values : ℕ
  pub room : ℕ
  pub list : ℕ

-- "Working buffers are zero at every return."
unfoldable pub leaves : Lent → Outcome → Left
leaves l o =
    record {
      answer = answer o;
      events = padded l.events (event_bytes o);
      values = padded l.values (value_bytes o);
      room = replicate l.room 0;
      list = replicate l.list 0;
    }

-- a call with one output, as the time rule: its answer, and what this output holds
pub record LeftKept : Type 0 where
  pub answer : Answer
  pub kept : List ℕ

unfoldable pub leaves_kept : ℕ → Outcome → LeftKept
leaves_kept n o = record { answer = answer o; kept = padded n (event_bytes o) }
