-- What the functions that write a value ask and promise, and what their proofs search.
-- Assumes nothing.
use Rattle.std.specs.Prelude.{◌≡◌, ℕ, suc, ◌+◌, ◌-◌, ◌%◌, ◌^◌, ◌<◌, ◌≤◌, List}
use Rattle.std.proofs.Math.Path.{sym, ap}
use Rattle.std.proofs.Common.{◌∙◌}
use Rattle.std.proofs.Math.Nat.{mod-eq_of_lt}
use native.Mathlib.Omega.{arith}
use Rattle.std.proofs.Math.Decide.{ℕ_discrete}
use Rattle.std.proofs.Math.ListN.{length, get_or}
use Rattle.states.specs.Kind.{bits, state_of}
use Rattle.tables.specs.Lists.{Lists, nth, signals}
use Rattle.tables.specs.Layout.{layout_of}
use Rattle.tables.specs.Layout.Laws.{count_is, width_is, state_is}
use Rattle.tables.specs.Checks.Laws.{nth_less}
use Rattle.tables.specs.Good.{Bit}
use Rattle.values.specs.Value.{most_of, Suits}
use Rattle.rules.specs.Gather.{width, write}
use Rattle.event_rooms.specs.declared.Counts.{Counts}
use Rattle.records.specs.Event.{value}
use Rattle.event_rooms.specs.Out.Laws.{EventsRoom, ValuesRoom}
use Rattle.vecmarks.specs.declared.VecBufferInfo.{VecBufferInfo}
use Rattle.vecmarks.specs.Info.{info_at}
use Rattle.vecstarts.specs.Numbers.{layout_from, Shapes, Started}
use Rattle.vecstarts.specs.Numbers.Laws.{layout_is}
use Rattle.gather.specs.Run.{gathers, alone}
use Rattle.gather.specs.Memory.{mem_of, Tabled, HoldsAt}
use Rattle.gather.specs.declared.Gathered.{Gathered}
use Rattle.gather.specs.declared.VecInfo.{VecInfo}
use Rattle.gather.specs.Makes.{Seen}

-- ---- a vector looked up

abbrev pub vec_info_from : (mins maxs states vec_refs : List ℕ) → ℕ → VecInfo
vec_info_from mins maxs states vec_refs v =
    record { v = v; info = info_at (layout_from mins maxs states) v; flags = info_at (layout_from mins maxs states) (length mins); reference = get_or vec_refs v 0 }

pub record Looks (mins maxs states vec_refs nums : List ℕ) (v : ℕ) : Type 0 where
  pub shapes : Shapes mins maxs states
  pub started : Started (layout_from mins maxs states) nums
  pub known : v < length mins
  pub named : v < length vec_refs

pub ask_info : {mins maxs states vec_refs nums : List ℕ} {v : ℕ} → Looks mins maxs states vec_refs nums v
    → Shapes mins maxs states × Started (layout_from mins maxs states) nums × (v < length mins)
ask_info k = (k.shapes, k.started, k.known)

pub ask_all : {mins maxs states vec_refs nums : List ℕ} {v : ℕ} → Looks mins maxs states vec_refs nums v → Shapes mins maxs states × Started (layout_from mins maxs states) nums
ask_all k = (k.shapes, k.started)

pub says_info : (mins maxs states vec_refs : List ℕ) (v : ℕ) {i f : VecBufferInfo} → i ≡ info_at (layout_from mins maxs states) v → f ≡ info_at (layout_from mins maxs states) (length mins)
    → ◌≡◌ {A = VecInfo} (record { v = v; info = i; flags = f; reference = get_or vec_refs v 0 }) (vec_info_from mins maxs states vec_refs v)
says_info mins maxs states vec_refs v d e = rw (d, e)

pub ruleset info_laws = (ask_info, ask_all, says_info)

module _ {t : Lists} (k : Tabled t) where
  pub shapes_of : Shapes t.mins t.maxs t.states
  shapes_of =
      record {
        tops = k.sized.maxs_long;
        kinds = k.sized.states_long;
        few = k.sized.few_vectors;
        order = λ v h. (k.ranged.vector v h).order;
        small = rw (← layout_is t) (omega (arith, k.named.starts));
      }

  module _ {r : _} {nums room events values : List ℕ} {i : ℕ} {c : Gathered} {g : _} {o : _} (h : HoldsAt t r (mem_of room nums events values) i c g o) {v : ℕ} (known : v < length t.mins) where
    pub looks_at : Looks t.mins t.maxs t.states t.vec_refs nums v
    looks_at = record { shapes = shapes_of; started = rw (← layout_is t) h.stands.listed.started; known = known; named = rw k.sized.vec_refs_long known }

pub seen_from : (t : Lists) {v : ℕ} → v < length t.mins → Seen t v (vec_info_from t.mins t.maxs t.states t.vec_refs v)
seen_from t known = record { is = rw (← layout_is t, ← count_is t); known = rw (count_is t) known }

-- ---- a signal outside vectors

pub record Alone (events values : List ℕ) (c : Counts) (kind v : ℕ) : Type 0 where
  pub in_events : EventsRoom events c
  pub in_values : ValuesRoom values c
  pub suits : Suits kind v

-- ---- a bit of a vector

-- what the tables say of a signal that has a vector
pub record OfVector (t : Lists) (id v x : ℕ) : Type 0 where
  pub known : v < length t.mins
  pub number : nth t.vecs id ≡ suc v
  pub above : get_or t.mins v 0 ≤ id
  pub below : id ≤ get_or t.maxs v 0
  pub inside : get_or t.maxs v 0 - id < (layout_of t).width v
  pub small : x < 2 ^ bits ((layout_of t).state v)
  pub byte : x % 256 ≡ x
  pub wide : width (gathers t) v ≡ (layout_of t).width v

module _ {t : Lists} (k : Tabled t) {id x : ℕ} (some : 1 ≤ id) (most : id ≤ signals t) (suits : Suits (nth t.kinds id) x) where
  abbrev i : ℕ
  i = id - 1

  in_kinds : i < length t.kinds
  unfolding signals
  in_kinds = omega arith

  pub ask_kinds : id - 1 < length t.kinds
  ask_kinds = in_kinds

  pub ask_refs : id - 1 < length t.refs
  ask_refs = rw k.sized.refs_long in_kinds

  suits_at : Suits (get_or t.kinds i 0) x
  suits_at = rw (nth_less t.kinds id some) at suits

  module _ {n : ℕ} (e : n ≡ get_or t.vecs (id - 1) 0) (nonzero : n ≡ 0 → ⊥) where
    -- by the kind, nine-state or two-state
    from_bit : (state : ℕ) → Bit t state i → x ≤ 8 → x < 2 ^ bits (state_of state) → OfVector t id (n - 1) x
    unfolding width gathers
    from_bit state b most-x small-x =
        let j : get_or t.vecs i 0 - 1 ≡ n - 1 = ap (λ (y : ℕ). y - 1) (sym e) in
        let up : i + 1 ≡ id = omega arith in
        let known-v : n - 1 < length t.mins = omega (arith, b.some, b.inside) in
        let below-v : id ≤ get_or t.maxs (n - 1) 0 = rw (j, up) at b.below in
        let above-v : get_or t.mins (n - 1) 0 ≤ id = rw (j, up) at b.above in
        let state-v : get_or t.states (n - 1) 0 ≡ state = rw j at b.matches in
        record {
          known = known-v;
          number = nth_less t.vecs id some ∙ omega (arith, nonzero);
          above = above-v;
          below = below-v;
          inside = omega (arith, width_is t (n - 1) known-v);
          small = rw (state_is t (n - 1) known-v, state-v) small-x;
          byte = mod-eq_of_lt (omega arith);
          wide = sym (width_is t (n - 1) known-v);
        }

    pub of_vector : OfVector t id (n - 1) x
    unfolding most_of
    of_vector = go (ℕ_discrete (get_or t.kinds i 0) 1) (ℕ_discrete (get_or t.kinds i 0) 3)
      where
        go : Dec (get_or t.kinds i 0 ≡ 1) → Dec (get_or t.kinds i 0 ≡ 3) → OfVector t id (n - 1) x
        go (yes a) b = let m : x ≤ 8 = rw a at (suits_at (omega arith)) in from_bit 0 (k.signals.nine i in_kinds a) m (omega arith)
        go (no a) (yes b) = let m : x ≤ 1 = rw b at (suits_at (omega arith)) in from_bit 1 (k.signals.two i in_kinds b) (omega arith) (omega arith)
        go (no a) (no b) = absurd (nonzero (e ∙ k.signals.alone i in_kinds a b))
