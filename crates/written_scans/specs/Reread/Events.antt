-- The events of an input do not depend on its places: what was written gives the events of the change records, in every room.
-- Assumes nothing.
use Rattle.std.specs.Prelude.{◌≡◌, Bool, ◌&&◌}
use Rattle.std.proofs.Math.Path.{refl, sym, ap}
use Rattle.std.proofs.Common.{◌∙◌}
use Prim.Native.Nat.{ℕ, zero, suc, ◌-◌}
use Rattle.std.proofs.Math.Option.{Option, none, some}
use mathlib.Core.List.{List, [], ◌∷◌, ◌++◌, map}
use Rattle.numbers.specs.Fixed.Laws.{Bytes}
use Rattle.tables.specs.Lists.{Lists}
use Rattle.values.specs.Value.{ordinary}
use Rattle.rules.specs.Vector.{Write, put, rewritten, complete, Item, wrote, Vec, all, act, fires, clashes, stored, acts_early}
use Rattle.rules.specs.Gather.{Act, time, write, step_end, of, State, begin, width, bit_write, to_vector, toward, does}
use Rattle.event_rooms.specs.Out.{Rooms, Out, empty, append_all}
use Rattle.rules.specs.Scan.{Scan, say, done, fault}
use Rattle.gather.specs.Run.{gathers, of_vector, events_of, out, fitted, acted, after, run, run_all}
use Rattle.changes.specs.Changes.{scan_changes}
use Rattle.section_scan.specs.Sections.{scan_sections}
use Rattle.number_writer.specs.Ended as ended
use Rattle.sections_writer.specs.Writer.{write_sections}
use Rattle.written_scans.specs.Reread.{bare_act, bare, bare_went}
use Rattle.written_scans.specs.Reread.Back.{reread}

module _ (t : Lists) where
  -- a write to a vector shows no place
  items_same : (v : ℕ) (a c : List Item) (x y : Write) → events_of t (map (of v) (a ++ (wrote x ∷ c))) ≡ events_of t (map (of v) (a ++ (wrote y ∷ c)))
  unfolding events_of of_vector
  items_same v [] c x y = refl
  items_same v (i ∷ a) c x y = ap (λ e. of_vector t v i ++ e) (items_same v a c x y)

  act_same : (early : Bool) (vec : Vec) (v b c p : ℕ)
      → events_of t (map (of v) (act early vec (put (record { bit = b; value = c; pos = p }))).0) ≡ events_of t (map (of v) (act early vec (put (record { bit = b; value = c; pos = 0 }))).0)
  unfolding act clashes stored
  act_same early vec v b c p =
      let x : Write = record { bit = b; value = c; pos = 0 } in
      let a = fires (clashes vec x) rewritten vec in
      let d = stored a.1 x in
      items_same v a.0 (fires (early && all d.marks) complete d).0 (record { bit = b; value = c; pos = p }) x

  module _ (g : State) where
    toward_same : (number i x p : ℕ) → events_of t (toward acts_early (gathers t) g number i x p).0 ≡ events_of t (toward acts_early (gathers t) g number i x 0).0
    unfolding toward to_vector bit_write events_of
    toward_same zero i x p = refl
    toward_same (suc v) i x p = act_same (acts_early (width (gathers t) v)) (g.vecs v) v ((gathers t).max v - i) x p

    after_toward : (number i x p : ℕ) → (toward acts_early (gathers t) g number i x p).1 ≡ (toward acts_early (gathers t) g number i x 0).1
    unfolding toward to_vector act clashes stored bit_write
    after_toward zero i x p = refl
    after_toward (suc v) i x p = refl

    events_same : (a : Act) → events_of t (does acts_early (gathers t) g a).0 ≡ events_of t (does acts_early (gathers t) g (bare_act a)).0
    unfolding does bare_act
    events_same (time u) = refl
    events_same (write i x p) = toward_same ((gathers t).vector i) i x p
    events_same step_end = refl

    after_same : (r : Rooms) (a : Act) → after t r g a ≡ after t r g (bare_act a)
    unfolding after does bare_act
    after_same r (time u) = refl
    after_same r (write i x p) = after_toward ((gathers t).vector i) i x p
    after_same r step_end = refl

    acted_same : (r : Rooms) (o : Out) (a : Act) → acted t r g o a ≡ acted t r g o (bare_act a)
    unfolding acted
    acted_same r o a = ap (λ e. append_all r e (some o)) (events_same a)

  module _ (r : Rooms) where
    -- a reading goes as one that knows no places
    run_bare : (sc : Scan) (g : State) (o : Out) → bare_went (run t r sc g o) ≡ bare_went (run t r (bare sc) g o)
    unfolding run bare bare_went fitted
    run_bare (say a p rest) g o =
        go (acted t r g o a) (λ o'. run_bare rest (after t r g a) o')
        ∙ ap (λ x. bare_went (fitted 0 x out (λ o'. run t r (bare rest) (after t r g a) o'))) (acted_same g r o a)
        ∙ ap (λ h. bare_went (fitted 0 (acted t r g o (bare_act a)) out (λ o'. run t r (bare rest) h o'))) (after_same g r a)
      where
        go : (x : Option Out) → ((o' : Out) → bare_went (run t r rest (after t r g a) o') ≡ bare_went (run t r (bare rest) (after t r g a) o'))
            → bare_went (fitted p x out (λ o'. run t r rest (after t r g a) o')) ≡ bare_went (fitted 0 x out (λ o'. run t r (bare rest) (after t r g a) o'))
        go none rec = refl
        go (some o') rec = rec o'
    run_bare (done i) g o = refl
    run_bare (fault n p) g o = refl

    -- two inputs that say the same are read as the same
    pub same_run : (sc sc' : Scan) → bare sc ≡ bare sc' → bare_went (run_all t r sc) ≡ bare_went (run_all t r sc')
    unfolding run_all
    same_run sc sc' e =
        let g = begin (gathers t) in
        run_bare sc g empty ∙ (ap (λ x. bare_went (run t r x g empty)) e ∙ sym (run_bare sc' g empty))

    -- "reading them gives the same events as change reading"
    pub same_events : (flag : Bool) (s : List ℕ) (room read : ℕ) (bs : List ℕ) (n : ℕ) → Bytes s → write_sections t flag s room ≡ ended.wrote read bs n
        → bare_went (run_all t r (scan_sections t (ordinary flag) bs)) ≡ bare_went (run_all t r (scan_changes t s))
    same_events flag s room read bs n b e = same_run (scan_sections t (ordinary flag) bs) (scan_changes t s) (reread t flag s room read bs n b e)
