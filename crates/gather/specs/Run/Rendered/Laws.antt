-- Events that all fit are rendered within the rooms; where they do not all fit, there is a first that does not.
-- Assumes nothing.
use Rattle.std.specs.Prelude.{ℕ, ◌+◌, ◌≤◌, ◌≡◌, Bool, cond}
use Rattle.std.proofs.Math.Path.{refl, sym, ap}
use Rattle.std.proofs.Common.{◌∙◌, add-zero, add_assoc, arith}
use Rattle.std.proofs.Math.Bool.{true, false}
use Rattle.std.proofs.Math.Option.{Option, none, some, none-ne-some, some-ne-none, some-injective}
use mathlib.Core.List.{List, [], ◌∷◌, ◌++◌, append_assoc, append-nil}
use borrow.Author.Tests.{leb-true}
use Rattle.std.proofs.Math.ListN.{length, length-append}
use Rattle.numbers.specs.Fixed.{big_bytes}
use Rattle.tables.specs.Checks.Laws.{both}
use Rattle.records.specs.Event.{Event, time, value, real, record_of, record_bytes, event_value}
use Rattle.event_rooms.specs.Out.{Rooms, Out, fits, appended, append, append_all}
use Rattle.gather.specs.Run.Rendered.{rendered, values_of, steps_of, Rendered, Within, Misfit}

rendered_none : (o : Out) → Rendered o [] o
unfolding rendered values_of steps_of
rendered_none o = record { events = sym (append-nil o.events); values = sym (append-nil o.values); steps = sym (add-zero o.steps) }

module _ (r : Rooms) where
  rendered_more : (o o' : Out) (e : Event) (es : List Event) → Rendered (appended r o e) es o' → Rendered o (e ∷ es) o'
  unfolding rendered values_of steps_of appended
  rendered_more o o' e es h = record {
    events = h.events ∙ rw (length-append, append_assoc);
    values = h.values ∙ rw append_assoc;
    steps = h.steps ∙ rw add_assoc;
  }

  -- a record is as long wherever its values start
  same_length : (a b : ℕ) (e : Event) → length (record_bytes (record_of a e)) ≡ length (record_bytes (record_of b e))
  unfolding record_bytes record_of big_bytes
  same_length a b (time u) = refl
  same_length a b (value v s reference bs) = refl
  same_length a b (real reference bits) = refl

  within_more : (o : Out) (e : Event) → fits r o e ≡ true → Within r (appended r o e)
  unfolding fits appended
  within_more o e h =
      let (a, b) = both _ _ h in
      let c : length o.events + length (record_bytes (record_of 0 e)) ≤ r.events = leb-true _ _ a in
      let d : length o.values + length (event_value e) ≤ r.values = leb-true _ _ b in
      (rw length-append (omega (arith, same_length 0 (length o.values) e)), rw length-append d)

  pub append_none : (es : List Event) → append_all r es none ≡ none
  unfolding append_all
  append_none [] = refl
  append_none (e ∷ es) = refl

  pub append_both : (a b : List Event) (o : Option Out) → append_all r (a ++ b) o ≡ append_all r b (append_all r a o)
  unfolding append_all
  append_both [] b o = refl
  append_both (e ∷ a) b none = sym (append_none b)
  append_both (e ∷ a) b (some o) = append_both a b (append r o e)

  -- events that fit are rendered, within the rooms
  pub all_rendered : (es : List Event) (o o' : Out) → append_all r es (some o) ≡ some o' → Rendered o es o' × (Within r o → Within r o')
  unfolding append_all append
  all_rendered [] o o' h = let e = some-injective o o' h in (rw (← e) (rendered_none o), λ w. rw (← e) w)
  all_rendered (e ∷ es) o o' h = go (fits r o e) refl h (all_rendered es (appended r o e) o')
    where
      go : (b : Bool) → fits r o e ≡ b → append_all r es (cond b (some (appended r o e)) none) ≡ some o'
          → (append_all r es (some (appended r o e)) ≡ some o' → Rendered (appended r o e) es o' × (Within r (appended r o e) → Within r o'))
          → Rendered o (e ∷ es) o' × (Within r o → Within r o')
      go true f g rec = let (a, b) = rec g in (rendered_more o o' e es a, λ w. b (within_more o e f))
      go false f g rec = absurd (none-ne-some o' (sym (append_none es) ∙ g))

  -- where they do not all fit, there is a first that does not
  pub first_misfit : (es : List Event) (o : Out) → append_all r es (some o) ≡ none → Misfit r es o
  unfolding append_all append
  first_misfit [] o h = absurd (some-ne-none o h)
  first_misfit (e ∷ es) o h = go (fits r o e) refl h (first_misfit es (appended r o e))
    where
      go : (b : Bool) → fits r o e ≡ b → append_all r es (cond b (some (appended r o e)) none) ≡ none
          → (append_all r es (some (appended r o e)) ≡ none → Misfit r es (appended r o e)) → Misfit r (e ∷ es) o
      go true f g rec =
          let m = rec g in
          record {
            before = e ∷ m.before;
            event = m.event;
            behind = m.behind;
            split = ap (λ l. e ∷ l) m.split;
            filled = m.filled;
            fill = rw f m.fill;
            full = m.full;
          }
      go false f g rec = record { before = []; event = e; behind = es; split = refl; filled = o; fill = refl; full = f }
