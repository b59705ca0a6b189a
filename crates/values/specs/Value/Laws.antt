-- Laws of values: what the readers of each kind find, and where a value that was found ends.
-- Assumes nothing.
use Rattle.std.specs.Prelude.{◌≡◌, ℕ, ◌+◌, ◌^◌, ◌≤◌, ◌<◌, Bool, true, false, cond, List, length, get_or, leb, eqb, None, Option, Some}
use Rattle.std.proofs.Common.{sym, ap, subst, ◌∙◌, arith}
use borrow.Author.Tests.{le-leb, lt-leb, eq-eqb, ne_eqb, leb-true, leb-false}
use Rattle.slices.specs.Choice.{cond_ind}
use Rattle.slices.specs.Field.{field_of, field_next, field_short}
use Rattle.slices.specs.Splice.{part}
use Rattle.numbers.specs.Fixed.{fixed}
use Rattle.leb128.specs.Leb128.{read_unsigned, read_signed}
use Rattle.leb128.specs.Leb128.Laws.{leb_within, Within}
use Rattle.leb128.specs.Leb.{Leb}
use Rattle.leb128.specs.Leb as leb128
use Rattle.states.specs.Letters.{mapped}
use Rattle.states.specs.Letters.Laws.{mapped_most}
use Rattle.values.specs.declared.How.{How}
use Rattle.values.specs.Read.{Read, Value, Bad}
use Rattle.values.specs.Value.{number, unsigned, signed, byte_up_to, big_real, real, narrow, value, most_of, Suits}

-- ---- what the readers find

module _ (i : ℕ) {l : Leb} where
  pub number_value : {v next : ℕ} → l ≡ leb128.Value v next → Value v next ≡ number i l
  unfolding number
  number_value e = rw e

  pub number_short : l ≡ leb128.Short → Bad 7 i ≡ number i l
  unfolding number
  number_short e = rw e

  pub number_large : l ≡ leb128.Large → Bad 12 i ≡ number i l
  unfolding number
  number_large e = rw e

pub unsigned_is : (s : List ℕ) (i : ℕ) {l : Leb} {r : Read} → l ≡ read_unsigned s i → r ≡ number i l → r ≡ unsigned s i
unfolding unsigned
unsigned_is s i p e = e ∙ ap (number i) p

pub signed_is : (s : List ℕ) (i : ℕ) {l : Leb} {r : Read} → l ≡ read_signed s i → r ≡ number i l → r ≡ signed s i
unfolding signed
signed_is s i p e = e ∙ ap (number i) p

module _ (most : ℕ) (map : ℕ → ℕ) (s : List ℕ) (i : ℕ) where
  pub byte_none : length s ≤ i → Bad 7 i ≡ byte_up_to most map s i
  unfolding byte_up_to
  byte_none h = rw (lt-leb (i + 1) (length s) (omega arith))

  module _ (h : i < length s) where
    pub byte_found : get_or s i 0 ≤ most → (v : ℕ) → v ≡ map (get_or s i 0) → Value v (i + 1) ≡ byte_up_to most map s i
    unfolding byte_up_to
    byte_found b v e = rw (le-leb (i + 1) (length s) (omega arith), le-leb (get_or s i 0) most b, e)

    pub byte_over : most < get_or s i 0 → Bad 14 i ≡ byte_up_to most map s i
    unfolding byte_up_to
    byte_over b = rw (le-leb (i + 1) (length s) (omega arith), lt-leb (get_or s i 0) most b)

-- a nine-state byte, through the table
pub nine_found : (s : List ℕ) (i : ℕ) → i < length s → get_or s i 0 ≤ 8 → (m v : ℕ) → m ≡ mapped (get_or s i 0) → v ≡ m → Value v (i + 1) ≡ byte_up_to 8 mapped s i
nine_found s i h b m v e f = byte_found 8 mapped s i h b v (f ∙ e)

module _ (how : How) where
  pub real_by_flag : how.reals_by_flag ≡ true → how.big_endian ≡ big_real how
  real_by_flag e = rw e

  pub real_little : how.reals_by_flag ≡ false → false ≡ big_real how
  real_little e = rw e

module _ (how : How) (s : List ℕ) (i : ℕ) {f : Option ℕ} (e : f ≡ field_of 8 s i) where
  pub real_found : {j : ℕ} → f ≡ Some j → {b : Bool} → b ≡ big_real how → (v : ℕ) → v ≡ fixed b (part s i 8)
      → Value v j ≡ real how s i
  unfolding real
  real_found d q v p = let n = field_next 8 s i e d in rw (le-leb (i + 8) (length s) n.1, n.0, p, q)

  pub real_none : f ≡ None → Bad 7 i ≡ real how s i
  unfolding real
  real_none d = rw (lt-leb (i + 8) (length s) (field_short 8 s i e d))

pub real_inside : (s : List ℕ) (i : ℕ) {f : Option ℕ} → f ≡ field_of 8 s i → {j : ℕ} → f ≡ Some j → i + 8 ≤ length s
real_inside s i e d = (field_next 8 s i e d).1

-- by the kind
module _ (kind : ℕ) (s : List ℕ) (i : ℕ) {r : Read} where
  pub narrow_nine : kind ≤ 1 → r ≡ byte_up_to 8 mapped s i → r ≡ narrow kind s i
  unfolding narrow
  narrow_nine h e = e ∙ rw (le-leb kind 1 h)

  module _ (h : 1 < kind) where
    pub narrow_two : kind ≤ 3 → r ≡ byte_up_to 1 (λ b. b) s i → r ≡ narrow kind s i
    unfolding narrow
    narrow_two l e = e ∙ rw (lt-leb kind 1 h, le-leb kind 3 l)

    pub narrow_byte : 3 < kind → r ≡ byte_up_to 255 (λ b. b) s i → r ≡ narrow kind s i
    unfolding narrow
    narrow_byte l e = e ∙ rw (lt-leb kind 1 h, lt-leb kind 3 l)

module _ (how : How) (kind : ℕ) (s : List ℕ) (i : ℕ) {r : Read} where
  -- kinds 0 to 4 are read alike in every manner
  pub value_narrow : kind ≤ 4 → r ≡ narrow kind s i → r ≡ value how kind s i
  unfolding value
  value_narrow h e = e ∙ rw (le-leb kind 4 h)

  module _ (h : 4 < kind) where
    pub value_integer : kind ≡ 5 → r ≡ signed s i → r ≡ value how kind s i
    unfolding value
    value_integer j e = e ∙ rw (lt-leb kind 4 h, eq-eqb kind 5 j)

    pub value_real : (kind ≡ 5 → ⊥) → r ≡ real how s i → r ≡ value how kind s i
    unfolding value
    value_real j e = e ∙ rw (lt-leb kind 4 h, ne_eqb kind 5 j)

-- ---- where what was found ends

-- a value that was found is not empty and lies within the input
abbrev pub Ahead : List ℕ → ℕ → Read → Type 0
Ahead s i (Value v next) = (i < next) × (next ≤ length s)
Ahead s i (Bad n p) = Unit {0}

number_ahead : (s : List ℕ) (i : ℕ) (l : Leb) → Within s i l → Ahead s i (number i l)
unfolding number
number_ahead s i (leb128.Value v next) w = (w.0, w.1)
number_ahead s i leb128.Short w = tt
number_ahead s i leb128.Large w = tt

pub unsigned_ahead : (s : List ℕ) (i : ℕ) → Ahead s i (unsigned s i)
unfolding unsigned
unsigned_ahead s i = number_ahead s i (read_unsigned s i) (leb_within _ _ s i)

pub signed_ahead : (s : List ℕ) (i : ℕ) → Ahead s i (signed s i)
unfolding signed
signed_ahead s i = number_ahead s i (read_signed s i) (leb_within _ _ s i)

byte_ahead : (most : ℕ) (map : ℕ → ℕ) (s : List ℕ) (i : ℕ) → Ahead s i (byte_up_to most map s i)
unfolding byte_up_to
byte_ahead most map s i =
    cond_ind (leb (i + 1) (length s)) _ _ (Ahead s i)
    (λ t. cond_ind (leb (get_or s i 0) most) _ _ (Ahead s i) (λ u. let h = leb-true (i + 1) (length s) t in omega arith) (λ u. tt))
    (λ t. tt)

real_ahead : (how : How) (s : List ℕ) (i : ℕ) → Ahead s i (real how s i)
unfolding real
real_ahead how s i = cond_ind (leb (i + 8) (length s)) _ _ (Ahead s i) (λ t. let h = leb-true (i + 8) (length s) t in omega arith) (λ t. tt)

pub narrow_ahead : (kind : ℕ) (s : List ℕ) (i : ℕ) → Ahead s i (narrow kind s i)
unfolding narrow
narrow_ahead kind s i =
    cond_ind (leb kind 1) _ _ (Ahead s i) (λ t. byte_ahead _ _ s i)
    (λ t. cond_ind (leb kind 3) _ _ (Ahead s i) (λ u. byte_ahead _ _ s i) (λ u. byte_ahead _ _ s i))

pub value_ahead : (how : How) (kind : ℕ) (s : List ℕ) (i : ℕ) → Ahead s i (value how kind s i)
unfolding value
value_ahead how kind s i =
    cond_ind (leb kind 4) _ _ (Ahead s i) (λ t. narrow_ahead kind s i)
    (λ t. cond_ind (eqb kind 5) _ _ (Ahead s i) (λ u. signed_ahead s i) (λ u. real_ahead how s i))

-- ---- what was found suits the kind

abbrev Most : ℕ → Read → Type 0
Most most (Value v next) = v ≤ most
Most most (Bad n p) = Unit {0}

byte_most : (most bound : ℕ) (map : ℕ → ℕ) (s : List ℕ) (i : ℕ) → ((b : ℕ) → b ≤ most → map b ≤ bound) → Most bound (byte_up_to most map s i)
unfolding byte_up_to
byte_most most bound map s i f =
    cond_ind (leb (i + 1) (length s)) _ _ (Most bound)
    (λ t. cond_ind (leb (get_or s i 0) most) _ _ (Most bound) (λ u. f (get_or s i 0) (leb-true _ _ u)) (λ u. tt))
    (λ t. tt)

abbrev SuitsRead : ℕ → Read → Type 0
SuitsRead kind (Value v next) = Suits kind v
SuitsRead kind (Bad n p) = Unit {0}

most_suits : (kind : ℕ) (r : Read) → Most (most_of kind) r → SuitsRead kind r
most_suits kind (Value v next) m = λ h. m
most_suits kind (Bad n p) m = tt

wide_suits : (kind : ℕ) (r : Read) → 4 < kind → SuitsRead kind r
wide_suits kind (Value v next) l = λ h. absurd (omega arith)
wide_suits kind (Bad n p) l = tt

narrow_suits_read : (kind : ℕ) (s : List ℕ) (i : ℕ) → SuitsRead kind (narrow kind s i)
unfolding narrow most_of
narrow_suits_read kind s i =
    cond_ind (leb kind 1) _ _ (SuitsRead kind)
    (λ t. most_suits kind (byte_up_to 8 mapped s i) (rw t (byte_most 8 8 mapped s i mapped_most)))
    (λ t. cond_ind (leb kind 3) _ _ (SuitsRead kind)
    (λ u. most_suits kind (byte_up_to 1 (λ b. b) s i) (rw (t, u) (byte_most 1 1 (λ b. b) s i (λ b h. h))))
    (λ u. most_suits kind (byte_up_to 255 (λ b. b) s i) (rw (t, u) (byte_most 255 255 (λ b. b) s i (λ b h. h)))))

value_suits_read : (how : How) (kind : ℕ) (s : List ℕ) (i : ℕ) → SuitsRead kind (value how kind s i)
unfolding value
value_suits_read how kind s i =
    cond_ind (leb kind 4) _ _ (SuitsRead kind) (λ t. narrow_suits_read kind s i)
    (λ t. wide_suits kind (cond (eqb kind 5) (signed s i) (real how s i)) (leb-false kind 4 t))

module _ (kind : ℕ) (s : List ℕ) (i : ℕ) {r : Read} (e : r ≡ narrow kind s i) {v j : ℕ} (d : r ≡ Value v j) where
  pub narrow_suits : Suits kind v
  narrow_suits = subst (SuitsRead kind) (sym e ∙ d) (narrow_suits_read kind s i)

  pub narrow_next : (i < j) × (j ≤ length s)
  narrow_next = subst (Ahead s i) (sym e ∙ d) (narrow_ahead kind s i)

module _ (how : How) (kind : ℕ) (s : List ℕ) (i : ℕ) {r : Read} (e : r ≡ value how kind s i) {v j : ℕ} (d : r ≡ Value v j) where
  pub value_suits : Suits kind v
  value_suits = subst (SuitsRead kind) (sym e ∙ d) (value_suits_read how kind s i)

  pub value_next : (i < j) × (j ≤ length s)
  value_next = subst (Ahead s i) (sym e ∙ d) (value_ahead how kind s i)

pub ruleset number_laws = (number_value, number_short, number_large, unsigned_is, signed_is)

pub ruleset narrow_laws = (narrow_nine, narrow_two, narrow_byte)

pub ruleset value_laws = (value_narrow, value_integer, value_real)

pub ruleset byte_laws = (byte_none, byte_found, nine_found, byte_over)

pub ruleset flag_laws = (real_by_flag, real_little)

pub ruleset real_laws = (real_found, real_none, real_inside)
