-- What the items of a step's values say: writes and the step's end; and what is left behind them.
-- Assumes nothing.
use Rattle.std.specs.Prelude.{ℕ, ◌-◌, ◌<◌, ◌≡◌, true, false, List, eqb, get_or}
use Rattle.std.proofs.Math.Path.{refl}
use Rattle.std.proofs.Common.{sym, ap, subst}
use Rattle.std.proofs.lemmas.Bool.{false≢true}
use Rattle.slices.specs.Choice.{cond_ind}
use Rattle.tables.specs.Lists.{Lists, nth}
use Rattle.values.specs.Read.{Read}
use Rattle.values.specs.Read as read
use Rattle.values.specs.Value.{on_read, value}
use Rattle.rules.specs.Scan.{Scan}
use Rattle.gather.specs.Memory.{Tabled}
use Rattle.values.specs.declared.How.{How}
use Rattle.section_heads.specs.declared.Phase.TheVariants.{Listed}
use Rattle.section_heads.specs.declared.Stand.{Stand}
use Rattle.section_heads.specs.declared.Said.{Said}
use Rattle.section_heads.specs.declared.Said.TheVariants.{Nothing, Time, Write, StepEnd, Over, Bad}
use Rattle.section_heads.specs.declared.Item.{Item}
use Rattle.section_heads.specs.Heads.{standing, goes, bad}
use Rattle.sections.specs.Item.{in_values, after_values, next_of, write_item, found_item, value_item, next_item}
use Rattle.sections.specs.Item.Scans.{say_of, rank, to_read, Left, FollowsBy, Follows, item_follows}
use Rattle.vector_turns.specs.OneVector.{is_act, is_write}
use Rattle.item_turns.specs.Turn as turn
use Rattle.item_turns.specs.Turn.{Behind, said_behind}
use Rattle.item_acts.specs.Acts.{ActBy, SaidAt}
use Rattle.item_acts.specs.Acts.Laws.{LeftBehind}
use Rattle.gather.specs.declared.Gathered.{Gathered}
use Rattle.sections_along.specs.Along.{left_along}

-- ---- the values of a step

-- a write to an id, or the step's end, and where the reading stands then
abbrev pub ValueBy : Stand → Said → Stand → Type 0
ValueBy x Nothing y = ⊥
ValueBy x (Time u) y = ⊥
ValueBy x (Write v id) y = y ≡ standing x.phase id x.time
ValueBy x StepEnd y = y ≡ standing (after_values x.phase) 0 x.time
ValueBy x Over y = ⊥
ValueBy x (Bad n) y = Unit {0}

abbrev pub IsValue : Stand → Item → Type 0
IsValue x y = ValueBy x y.said y.then

module _ (kinds : List ℕ) (how : How) (s : List ℕ) (x : Stand) where
  write_says : (id i : ℕ) → IsValue x (write_item kinds how s x id i)
  unfolding write_item on_read
  write_says id i = by (value how (nth kinds id) s i)
    where
      by : (r : Read) → IsValue x (on_read r bad (λ v j. goes j (Write v id) (standing x.phase id x.time)))
      by (read.Value v j) = refl
      by (read.Bad n p) = tt

  found_says : (id i : ℕ) → IsValue x (found_item kinds how s x id i)
  unfolding found_item
  found_says id i = cond_ind (eqb id 0) _ _ (IsValue x) (λ z. refl) (λ z. write_says id i)

  pub value_says : (i : ℕ) → IsValue x (value_item kinds how s x i)
  unfolding value_item on_read
  value_says i = by (next_of kinds s x.phase x.id i)
    where
      by : (r : Read) → IsValue x (on_read r bad (λ id j. found_item kinds how s x id j))
      by (read.Value id j) = found_says id j
      by (read.Bad n p) = tt

-- ---- the scan where a reading stands

module _ (t : Lists) (how : How) (s : List ℕ) (x : Stand) (i : ℕ) where
  is_value : in_values x.phase ≡ true → next_item t.kinds how s x i ≡ value_item t.kinds how s x i
  unfolding next_item
  is_value e = rw e

value_follows : {t : Lists} {how : How} {s : List ℕ} {x : Stand} {i : ℕ} {sc : Scan} → Left t how s x i sc → in_values x.phase ≡ true → Follows t how s (rank x.phase) i sc (value_item t.kinds how s x i)
value_follows {t} {how} {s} {x} {i} {sc} l e = subst (Follows t how s (rank x.phase) i sc) (is_value t how s x i e) (item_follows t how s x i l)

module _ (t : Lists) (how : How) (s : List ℕ) (x : Stand) (i : ℕ) (sc : Scan) (y : Item) where
  says_by : (a : Said) → y.said ≡ a → ValueBy x a y.then → FollowsBy t how s (rank x.phase) i sc y.at y.then a → SaidAt (Left t how s y.then y.at) y sc
  unfolding say_of
  says_by Nothing e v f = absurd v
  says_by (Time u) e v f = absurd v
  says_by (Write n id) e v f = record { says = rw e (f.place, record { rest = f.rest; scans = f.scans; left = f.left }) }
  says_by StepEnd e v f = record { says = rw e (f.place, record { rest = f.rest; scans = f.scans; left = f.left }) }
  says_by Over e v f = absurd v
  says_by (Bad n) e v f = record { says = rw e f }

  act_by : (a : Said) → ValueBy x a y.then → FollowsBy t how s (rank x.phase) i sc y.at y.then a → (c : Gathered) → (is_write a ≡ true → c.ended ≡ 0) → ActBy t c y.then a
  act_by Nothing v f c b = absurd v
  act_by (Time u) v f c b = absurd v
  act_by (Write n id) v f c b = ((b refl, f.sound.0.low, f.sound.0.high, f.sound.1), ap (λ (z : Stand). z.id) v)
  act_by StepEnd v f c b = tt
  act_by Over v f c b = absurd v
  act_by (Bad n) v f c b = tt

  ahead_by : (a : Said) → is_act a ≡ true → FollowsBy t how s (rank x.phase) i sc y.at y.then a → to_read s y.then y.at < to_read s x i
  unfolding to_read
  ahead_by Nothing e f = absurd (false≢true e)
  ahead_by (Time u) e f = absurd (false≢true e)
  ahead_by (Write n id) e f = f.less
  ahead_by StepEnd e f = f.less
  ahead_by Over e f = absurd (false≢true e)
  ahead_by (Bad n) e f = absurd (false≢true e)

-- an act is said and then what is left behind it, or a refusal
module _ {t : Lists} {how : How} {s : List ℕ} {x : Stand} {i : ℕ} {sc : Scan} (l : Left t how s x i sc) (e : in_values x.phase ≡ true) where
  abbrev y : Item
  y = value_item t.kinds how s x i

  pub value_said : SaidAt (Left t how s (value_item t.kinds how s x i).then (value_item t.kinds how s x i).at) (value_item t.kinds how s x i) sc
  value_said = says_by t how s x i sc y y.said refl (value_says t.kinds how s x i) (value_follows l e)

  pub value_act : (c : Gathered) → (is_write (value_item t.kinds how s x i).said ≡ true → c.ended ≡ 0) → ActBy t c (value_item t.kinds how s x i).then (value_item t.kinds how s x i).said
  value_act c b = act_by t how s x i sc y y.said (value_says t.kinds how s x i) (value_follows l e) c b

  pub value_ahead : is_act (value_item t.kinds how s x i).said ≡ true → to_read s (value_item t.kinds how s x i).then (value_item t.kinds how s x i).at < to_read s x i
  value_ahead a = ahead_by t how s x i sc y y.said a (value_follows l e)

-- ---- behind an item, after changes along a vector

pub left_behind : {t : Lists} → Tabled t → (how : How) {s : List ℕ} {x : Item} {id at : ℕ} {sc : Scan} → Left t how s x.then x.at sc → (b : Behind t s x id at)
    → LeftBehind (Left t how s (standing x.then.phase id x.then.time) at) (said_behind b) sc
unfolding said_behind
left_behind k how {sc = sc} l (turn.here e d) = record { rest = sc; left = rw (e, d) l; scans = refl }
left_behind {t} k how {s} {x} {id} {at} {sc} l (turn.behind_all ph {v} known {bit} inside is {left = left} a d) =
    let u : ℕ = x.then.time in
    let stands : x.then ≡ standing Listed (get_or t.maxs v 0 - bit) u = λ j. record { phase = ph j; id = is j; time = u } in
    let y = left_along k known how (subst (λ (z : Stand). Left t how s z x.at sc) stands l) inside a in
    let there : standing Listed (get_or t.maxs v 0 - left) u ≡ standing x.then.phase id u = λ j. record { phase = sym ph j; id = sym d j; time = u } in
    record { rest = y.rest; left = subst (λ (z : Stand). Left t how s z at y.rest) there y.left; scans = y.scans }
