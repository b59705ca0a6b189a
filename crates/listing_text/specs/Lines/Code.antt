-- What the proofs of `lines` search.
-- Assumes nothing.
use Rattle.std.specs.Prelude.{◌≡◌, refl, take, drop, Option, Some, None}
use Rattle.std.proofs.Common.{sym, ap, ◌∙◌}
use Rattle.std.proofs.Math.Path.{subst}
use Prim.Native.Nat.{ℕ, zero, suc, ◌+◌, ◌-◌, ◌≤◌, ◌<◌}
use Rattle.std.proofs.Math.Bool.{true}
use mathlib.Core.List.{List, [], ◌++◌, append_assoc, append-nil}
use native.Mathlib.Omega.{arith}
use borrow.Author.Tests.{leb-true}
use Rattle.std.proofs.Math.ListN.{length}
use Rattle.slices.specs.Splice.{splice, part}
use Rattle.slices.specs.Splice.Laws.{splice_all}
use Rattle.numbers.specs.Fixed.{big_bytes}
use Rattle.numbers.specs.Fixed.Laws.{length_big_bytes}
use Rattle.states.specs.declared.States.{States}
use Rattle.records.specs.declared.Record.{Record}
use Rattle.records.specs.declared.Record.TheVariants.{Time, Value, Real}
use Rattle.event_streams.specs.Next.{Next, Event, End, Bad}
use Rattle.event_streams.specs.Stream.{next_event, in_values}
use Rattle.event_streams.proofs.Stream.Laws.{found_event, past_end}
use Rattle.listing_text.specs.declared.lines.Progress.{Progress}
use Rattle.plain_text.specs.Text.{decimal, hex}
use Rattle.plain_text.specs.Text.Laws.{Adds, adds_then, adds_none}
use Rattle.listing_text.specs.Lines.{newline, space, time_word, real_word, time_line, hex_line, pair_line, state_word, event_line, one_line, lines_from, event_lines}

-- a word, with the space behind it, and a number
unfoldable pub numbered : List ℕ → ℕ → List ℕ
numbered word n = word ++ decimal n

module _ {t t₁ t₂ : List ℕ} {at i j : ℕ} (w : List ℕ) (n : ℕ) where
  pub adds_number : Adds t at w t₁ i → Adds t₁ i (decimal n) t₂ j → Adds t at (numbered w n) t₂ j
  unfolding numbered
  adds_number a b = adds_then a b

module _ {t t₁ t₂ : List ℕ} {at i j : ℕ} (u : ℕ) where
  pub adds_time : Adds t at (numbered time_word u) t₁ i → Adds t₁ i newline t₂ j → Adds t at (time_line u) t₂ j
  unfolding numbered time_line
  adds_time a b = adds_then a b

module _ {t t₁ t₂ t₃ t₄ : List ℕ} {at i j k l r r' : ℕ} (w bs : List ℕ) where
  pub adds_hex : r' ≡ r → Adds t at (numbered w r') t₁ i → Adds t₁ i space t₂ j → Adds t₂ j (hex bs) t₃ k → Adds t₃ k newline t₄ l → Adds t at (hex_line w r bs) t₄ l
  unfolding numbered hex_line
  adds_hex e a b c d = rw (← e) (adds_then (adds_then (adds_then a b) c) d)

module _ {t t₁ t₂ t₃ : List ℕ} {at i j k : ℕ} (w : List ℕ) (a b : ℕ) where
  pub adds_two : Adds t at (numbered w a) t₁ i → Adds t₁ i (numbered space b) t₂ j → Adds t₂ j newline t₃ k → Adds t at (pair_line w a b) t₃ k
  unfolding numbered pair_line
  adds_two p q r =
      let pq : Adds t at (w ++ decimal a ++ space ++ decimal b) t₂ j = rw (append_assoc (w ++ decimal a) space (decimal b)) (adds_then p q) in
      adds_then pq r

module _ {t t' : List ℕ} {at j : ℕ} (b z : List ℕ) (r u : ℕ) where
  pub adds_real : length z ≡ 8 → b ≡ splice z 0 (big_bytes 8 u) → Adds t at (hex_line real_word r b) t' j → Adds t at (hex_line real_word r (big_bytes 8 u)) t' j
  adds_real n e a = rw (e ∙ splice_all z (big_bytes 8 u) (length_big_bytes 8 u ∙ sym n)) at a

-- ---- one event

module _ (values : List ℕ) {e : Record} {s : States} {r start n : ℕ} (p : e ≡ Value s r start n) {x y : ℕ} (f : x ≡ start) (g : y ≡ n) where
  pub event_inside : in_values (length values) e ≡ true → x + y ≤ length values
  unfolding in_values
  event_inside h = leb-true (x + y) (length values) (rw (f, g) (rw p at h))

module _ (values : List ℕ) {t t' : List ℕ} {at j : ℕ} {e : Record} where
  pub event_time : {u : ℕ} → e ≡ Time u → Adds t at (time_line u) t' j → Adds t at (event_line values e) t' j
  unfolding event_line
  event_time p a = rw p a

  pub event_real : {r u : ℕ} → e ≡ Real r u → Adds t at (hex_line real_word r (big_bytes 8 u)) t' j → Adds t at (event_line values e) t' j
  unfolding event_line
  event_real p a = rw p a

  module _ {s : States} {r start n : ℕ} (p : e ≡ Value s r start n) {x y : ℕ} (f : x ≡ start) (g : y ≡ n) where
    pub event_value : Adds t at (hex_line (state_word s) r (take (x + y - x) (drop x values))) t' j → Adds t at (event_line values e) t' j
    unfolding event_line part
    event_value a = let z : x + y - x ≡ y = omega arith in rw (p, ← f, ← g) (rw z at a)

-- ---- all events

-- what has been written, and what is left to write, are all lines
pub record On (events values t : List ℕ) (at : ℕ) (p : Progress) (t' : List ℕ) : Type 0 where
  pub fuel : ℕ
  pub enough : length events ≤ p.read + fuel
  pub so : List ℕ
  pub adds : Adds t at so t' p.end
  pub left : so ++ lines_from events values fuel p.read ≡ event_lines events values
  pub long : length t' ≡ length t

abbrev pub Comes : (events values t : List ℕ) (p : Progress) (t' : List ℕ) → Option Progress → Type 0
Comes events values t p t' (Some q) = (e : Record) × (next_event events (length values) true p.read ≡ Event e q.read) × Adds t p.end (event_line values e) t' q.end
Comes events values t p t' None = ((more : ℕ → List ℕ) → one_line events values (next_event events (length values) true p.read) more ≡ []) × (t' ≡ t)

-- a line was written, or there are no more
pub record Turned (events values t : List ℕ) (p : Progress) (t' : List ℕ) (r : Option Progress) : Type 0 where
  pub comes : Comes events values t p t' r

pub line_inside : (events values : List ℕ) (i : ℕ) {n : Next} → n ≡ next_event events (length values) true i → {e : Record} {j : ℕ} → n ≡ Event e j → in_values (length values) e ≡ true
line_inside events values i u v = (found_event events (length values) true i (sym u ∙ v)).inside

module _ (events values : List ℕ) {t : List ℕ} (p : Progress) {n : Next} (u : n ≡ next_event events (length values) true p.read) where
  pub turned_end : n ≡ End → Turned events values t p t None
  unfolding one_line
  turned_end e = record { comes = (λ more. rw (sym u ∙ e), refl) }

  pub turned_bad : {a b : ℕ} → n ≡ Bad a b → Turned events values t p t None
  unfolding one_line
  turned_bad e = record { comes = (λ more. rw (sym u ∙ e), refl) }

  module _ {e : Record} {j : ℕ} (v : n ≡ Event e j) where
    pub turned_more : {t' : List ℕ} {k : ℕ} → Adds t p.end (event_line values e) t' k → Turned events values t p t' (Some (record { read = j; end = k }))
    turned_more a = record { comes = (e, sym u ∙ v, a) }

pub on_start : (events values t : List ℕ) (at : ℕ) → On events values t at (record { read = 0; end = at }) t
unfolding event_lines
on_start events values t at = record { fuel = length events; enough = omega arith; so = []; adds = adds_none t at; left = refl; long = refl }

module _ {events values t t₁ : List ℕ} {at : ℕ} {p : Progress} (o : On events values t at p t₁) where
  abbrev Once : Type 0
  Once = (f : ℕ) × (length events ≤ p.read + suc f) × (o.so ++ one_line events values (next_event events (length values) true p.read) (λ j. lines_from events values f j) ≡ event_lines events values)

  once : Once
  unfolding lines_from one_line
  once = go o.fuel o.enough o.left
    where
      go : (f : ℕ) → length events ≤ p.read + f → o.so ++ lines_from events values f p.read ≡ event_lines events values → Once
      go zero h e = (0, omega arith, rw (past_end events (length values) true p.read (omega arith)) e)
      go (suc f) h e = (f, h, e)

  module _ {t₂ : List ℕ} {r : Option Progress} (a : Turned events values t₁ p t₂ r) where
    pub on_more : {q : Progress} → r ≡ Some q → On events values t at q t₂
    unfolding one_line
    on_more {q} e =
        let c = subst (Comes events values t₁ p t₂) e a.comes in
        let w = found_event events (length values) true p.read c.1 in
        record {
          fuel = once.0;
          enough = omega (arith, once.1, w.ahead);
          so = o.so ++ event_line values c.0;
          adds = adds_then o.adds c.2;
          left = append_assoc o.so _ _ ∙ rw c.1 at once.2;
          long = c.2.long ∙ o.long;
        }

    pub less : {q : Progress} → r ≡ Some q → length events - q.read < length events - p.read
    less e =
        let c = subst (Comes events values t₁ p t₂) e a.comes in
        let w = found_event events (length values) true p.read c.1 in omega (arith, w.ahead, w.within)

    pub on_over : r ≡ None → Adds t at (event_lines events values) t₂ p.end
    on_over e =
        let c = subst (Comes events values t₁ p t₂) e a.comes in
        let z : o.so ≡ event_lines events values = rw (c.0 (λ j. lines_from events values once.0 j), append-nil o.so) at once.2 in
        rw (← z, c.1) o.adds

    pub over_long : r ≡ None → length t₂ ≡ length t
    over_long e = let c = subst (Comes events values t₁ p t₂) e a.comes in ap length c.1 ∙ o.long

pub ruleset number_laws = (adds_number)

pub ruleset time_laws = (adds_time)

pub ruleset hex_laws = (adds_hex)

pub ruleset pair_laws = (adds_two)

pub ruleset real_laws = (adds_real)

pub ruleset event_laws = (event_time, event_real, event_inside, event_value)

pub ruleset one_laws = (turned_end, turned_bad, line_inside, turned_more)

pub ruleset lines_laws = (on_start, on_more, less, on_over, over_long)
