-- Section reading's scan over changes that follow one another along a vector: it is their writes, and then the scan from the place behind them.
-- Assumes nothing.
use Prim.Native.Nat.{ℕ, zero, suc, ◌+◌, ◌-◌, ◌%◌, ◌<◌, ◌≤◌}
use Rattle.std.specs.Prelude.{◌≡◌, List, get_or}
use Rattle.std.proofs.Math.Path.{refl, ap}
use Rattle.std.proofs.Common.{sym, ◌∙◌, mod-eq_of_lt, arith}
use Rattle.std.proofs.Math.ListN.{length}
use Rattle.leb128.specs.Leb128.Code.{unsigned_one}
use Rattle.tables.specs.Lists.{Lists, nth}
use Rattle.tables.specs.Layout.{layout_of}
use Rattle.tables.specs.Layout.Laws.{width_is}
use Rattle.values.specs.Read.{Value}
use Rattle.values.specs.Value.{on_read, unsigned, value}
use Rattle.values.specs.Value.Laws.{number_value, unsigned_is, byte_found}
use Rattle.rules.specs.Gather.{write, step_end}
use Rattle.vecmarks.specs.Info.{info_at}
use Rattle.gather.specs.Memory.{Tabled}
use Rattle.rules.specs.Scan.{Scan, say, and_then}
use Rattle.section_scan.specs.Sections.{next_id, one_change, change_list, next_time, one_step, steps, sections}
use Rattle.section_scan.specs.Sections.Deltas.{id_found, id_same}
use Rattle.section_scan.specs.FoundId.{Id}
use Rattle.values.specs.declared.How.{How}
use Rattle.section_heads.specs.declared.Phase.TheVariants.{Listed}
use Rattle.section_heads.specs.Heads.{standing}
use Rattle.sections.specs.Item.Scans.{scan_from, Left}
use Rattle.quiet_changes.specs.Along.{bit_map, Taken, OfState, of_state}
use Rattle.along.specs.Follows.{Along, none, more, said}

module _ {t : Lists} (k : Tabled t) {v : ℕ} (known : v < length t.mins) where
  abbrev max : ℕ
  max = get_or t.maxs v 0

  -- ---- one of them

  module _ {s : List ℕ} {left at : ℕ} {room room' : List ℕ} {d : ℕ} (inside : left < (layout_of t).width v) (here : at + 2 ≤ length s) (a : Taken (info_at (layout_of t) v) s left at room room' d) where
    order : get_or t.mins v 0 ≤ max
    order = (k.ranged.vector v known).order

    within : left ≤ max - get_or t.mins v 0
    within = omega (arith, width_is t v known, inside)

    above : get_or t.mins v 0 ≤ max - (left - d)
    above = omega (arith, within, order)

    below : max - (left - d) ≤ max
    below = omega arith

    most : max ≤ length t.kinds
    most = (k.ranged.vector v known).most

    sum : max - left + d ≡ max - (left - d)
    sum = omega (arith, within, a.above)

    found : next_id t s (max - left) at ≡ Id (max - (left - d)) (at + 1)
    found =
        let h : get_or s at 0 < 128 = rw (← a.delta) a.low in
        let m : d ≡ get_or s at 0 % 128 = a.delta ∙ sym (mod-eq_of_lt h) in
        let e : Value d (at + 1) ≡ unsigned s at = unsigned_is s at (unsigned_one s at (omega arith) h) (ap (λ (n : ℕ). Value n (at + 1)) m ∙ number_value at refl) in
        sym (id_same t s (max - left) at)
        ∙ (sym (id_found t.kinds s (max - left) at e refl (λ z. omega (arith, a.some)) (omega (arith, most)) (omega (arith, most, within, a.above))) ∙ ap (λ (n : ℕ). Id n (at + 1)) sum)

    read : (how : How) → value how (nth t.kinds (max - (left - d))) s (at + 1) ≡ Value (bit_map ((layout_of t).state v) (get_or s (at + 1) 0)) (at + 2)
    read how =
        let e : at + 1 + 1 ≡ at + 2 = omega arith in
        sym (rw e at ((of_state k v (max - (left - d)) known above below).reads how s (at + 1) (byte_found _ (bit_map ((layout_of t).state v)) s (at + 1) (omega arith) a.good _ refl)))

    one_along : (how : How) (f : ℕ)
        → change_list t how s (suc f) (max - left) at
        ≡ say (write (max - (left - d)) (bit_map ((layout_of t).state v) (get_or s (at + 1) 0)) (at + 1)) (at + 2) (change_list t how s f (max - (left - d)) (at + 2))
    unfolding change_list one_change on_read
    one_along how f = rw (found, read how)

  -- ---- all of them

  -- what follows the writes does not matter to them
  said_then : {s room : List ℕ} {left at : ℕ} {room' : List ℕ} {left' at' : ℕ} (a : Along (info_at (layout_of t) v) s room left at room' left' at') (rest : Scan) (n : ℕ → Scan) → and_then (said max a rest) n ≡ said max a (and_then rest n)
  unfolding said and_then
  said_then none rest n = refl
  said_then (more a h w p q) rest n = said_then a _ n

  -- a change list from its bit `left` on
  pub record Listing (how : How) (s : List ℕ) (f left at : ℕ) (left' at' : ℕ) (says : Scan → Scan) : Type 0 where
    pub fuel : ℕ
    pub enough : length s ≤ at' + fuel
    pub inside : left' < (layout_of t).width v
    pub ahead : at ≤ at'
    pub within : at' ≤ length s
    pub is : change_list t how s f (max - left) at ≡ says (change_list t how s fuel (max - left') at')

  along_list : (how : How) {s room : List ℕ} {left at : ℕ} {room' : List ℕ} {left' at' : ℕ} (a : Along (info_at (layout_of t) v) s room left at room' left' at') → left < (layout_of t).width v → (f : ℕ) → length s ≤ at + f → at ≤ length s
      → Listing how s f left at left' at' (said max a)
  unfolding said
  along_list how none inside f e h = record { fuel = f; enough = e; inside = inside; ahead = omega arith; within = h; is = refl }
  along_list how {s} {left = left} {at} (more {left₁ = left₁} {left₂ = left₂} {at₁ = at₁} {at₂ = at₂} a here w p q) inside f e h = on (along_list how a inside f e h)
    where
      last : (n : ℕ) → length s ≤ at₁ + n → left₁ < (layout_of t).width v → at ≤ at₁ → change_list t how s f (max - left) at ≡ said max a (change_list t how s n (max - left₁) at₁)
          → Listing how s f left at left₂ at₂ (said max (more a here w p q))
      last zero l i j y = absurd (omega arith)
      last (suc n) l i j y =
          record {
            fuel = n;
            enough = omega (arith, q);
            inside = omega (arith, p);
            ahead = omega (arith, q);
            within = omega (arith, q, here);
            is = y ∙ ap (said max a) (rw (p, q) (one_along i here w how n));
          }

      on : Listing how s f left at left₁ at₁ (said max a) → Listing how s f left at left₂ at₂ (said max (more a here w p q))
      on y = last y.fuel y.enough y.inside y.ahead y.is

  -- ---- in a section

  -- of section reading's scan, what is left behind them
  pub record LeftBehind (how : How) (s : List ℕ) (u at : ℕ) (sc : Scan) (left' at' : ℕ) (says : Scan → Scan) : Type 0 where
    pub rest : Scan
    pub left : Left t how s (standing Listed (max - left') u) at' rest
    pub scans : sc ≡ says rest
    pub ahead : at ≤ at'

  pub left_along : (how : How) {s room : List ℕ} {u left at : ℕ} {sc : Scan} → Left t how s (standing Listed (max - left) u) at sc → left < (layout_of t).width v
      → {room' : List ℕ} {left' at' : ℕ} (a : Along (info_at (layout_of t) v) s room left at room' left' at') → LeftBehind how s u at sc left' at' (said max a)
  unfolding scan_from
  left_along how {s} {u = u} {left = left} {at = at} {sc} l inside {left' = left'} {at'} a =
      record {
        rest = scan_from t how s y.fuel l.f_s l.f_t Listed (max - left') u at';
        left =
            record {
              f_l = y.fuel;
              f_s = l.f_s;
              f_t = l.f_t;
              enough = record { lists = y.enough; cycles = omega (arith, l.enough.cycles, y.ahead); all = omega (arith, l.enough.all, y.ahead) };
              scans = refl;
              inside = y.within;
              stood = λ _. omega (arith, (k.ranged.vector v known).most);
            };
        scans = l.scans ∙ (ap (λ (c : Scan). and_then (and_then c after_list) after_section) y.is ∙ (ap (λ (c : Scan). and_then c after_section) (said_then a _ after_list) ∙ said_then a _ after_section));
        ahead = y.ahead;
      }
    where
      y : Listing how s l.f_l left at left' at' (said max a)
      y = along_list how a inside l.f_l l.enough.lists l.inside

      after_list : ℕ → Scan
      after_list j = say step_end j (one_step t how s (next_time s u j) (λ u' e. steps t how s l.f_s u' e))

      after_section : ℕ → Scan
      after_section j = sections t how s l.f_t j
