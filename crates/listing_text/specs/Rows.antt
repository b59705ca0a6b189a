-- Rows that try the listing on small inputs, each by computation.
-- Assumes nothing.
use Rattle.std.specs.Prelude.{ℕ, zero, suc, ◌<◌, ◌≡◌, refl, List, [], ◌∷◌, ◌++◌, length}
use Rattle.std.proofs.lemmas.Bool.{lt-leb}
use Rattle.numbers.specs.Fixed.{big_bytes}
use Rattle.entries.specs.Opened.{opened}
use Rattle.plain_text.specs.Text as text
use Rattle.listing_text.specs.Lines as lines
use Rattle.listing_text.specs.Lines.{refused_word, done_word, real_word, time_line, hex_line, pair_line}
use Rattle.preamble.specs.Preamble as preambles
use Rattle.listing_text.specs.Listing as listings
use Rattle.listing_text.specs.Listing.{listing}

-- `unfolding computes` opens every definition that a row computes with
unfoldable computes : Unit {0}
unfolding opened text.digit text.decimal_of text.decimal text.hex lines.time_line lines.hex_line lines.pair_line lines.event_line lines.one_line lines.lines_from lines.event_lines preambles.item_length preambles.signal_at preambles.vector_at preambles.flag_at preambles.whole_item preambles.item_at preambles.one_item preambles.opening preambles.preamble listings.told listings.section_lines listings.after_preamble listings.listing
computes = tt

abbrev Refuses : List ℕ → (number place : ℕ) → Type 0
Refuses s number place = listing s ≡ pair_line refused_word number place

-- document 01's worked input and its nine lines, as ASCII
pub worked :
    listing (big_bytes 116 0x0100000000010000000001030000000200000001010300000002000000010104000000030000000002000000020000000301000000020300534e50000000000000000000000000000301002a45534e00435943000a00000000000000030100050104007f45435900544149000000000000000000)
    ≡ big_bytes 7 0x74696d6520300a
    ++ big_bytes 10 0x6e696e6520312030310a
    ++ big_bytes 9 0x74776f20322030320a
    ++ big_bytes 9 0x74776f20332032610a
    ++ big_bytes 8 0x74696d652031300a
    ++ big_bytes 9 0x74776f20322030330a
    ++ big_bytes 8 0x74696d652031350a
    ++ big_bytes 10 0x6e696e6520312030330a
    ++ big_bytes 10 0x646f6e6520363020330a
unfolding computes
worked = refl

-- `real` has always 16 digits
pub real_zero : listing (big_bytes 52 0x010600000001000000000300534e5000000000000000000000000000000000000000000045534e00544149000000000000000000) ≡ time_line 0 ++ hex_line real_word 1 (big_bytes 8 0) ++ pair_line done_word 40 1
unfolding computes
real_zero = refl

pub real_text : hex_line real_word 1 (big_bytes 8 0x3ff8000000000001) ≡ big_bytes 24 0x7265616c203120336666383030303030303030303030310a
unfolding computes
real_text = refl

pub refused_text : pair_line refused_word 1 32768 ≡ big_bytes 16 0x7265667573656420312033323736380a
unfolding computes
refused_text = refl

pub most_text : time_line 0xffff_ffff_ffff_ffff ≡ big_bytes 26 0x74696d652031383434363734343037333730393535313631350a
unfolding computes
most_text = refl

-- "Longer input is 1 at place 32,768", whatever it holds
pub too_long : (s : List ℕ) → 32768 < length s → Refuses s 1 32768
unfolding listing
too_long s h = rw (lt-leb (length s) 32768 h)

-- 17 stands at record 3's first byte
pub bad_flag : Refuses (big_bytes 2 0x0302) 17 0
unfolding computes
bad_flag = refl

-- a missing flag byte is 7 there
pub no_flag : Refuses (big_bytes 1 0x03) 7 0
unfolding computes
no_flag = refl

-- "input ends where a .. record must still follow"
pub no_input : Refuses ([]) 7 0
unfolding computes
no_input = refl

-- no section bytes: the place counts from the first of them
pub no_sections : Refuses (big_bytes 2 0x0300) 7 0
unfolding computes
no_sections = refl

-- an unknown kind, at its record
pub unknown : Refuses (big_bytes 11 0x0102000000010000000004) 17 10
unfolding computes
unknown = refl

-- a cut record, at its first byte
pub cut_vector : Refuses (big_bytes 23 0x0200000001000000010100000001010200000001000000) 7 14
unfolding computes
cut_vector = refl

-- kind 7 is no preamble fault: check 4
pub bad_kind : Refuses (big_bytes 24 0x010700000001000000000300544149000000000000000000) 4 1
unfolding computes
bad_kind = refl

-- nor is state 2: check 3
pub bad_state : Refuses (big_bytes 28 0x02000000010000000102000000010300544149000000000000000000) 3 1
unfolding computes
bad_state = refl

-- .. and neither is judged where the preamble is not whole
pub kind_unread : Refuses (big_bytes 10 0x01070000000100000000) 7 10
unfolding computes
kind_unread = refl

-- signal and vector records in any order
pub mixed : listing (big_bytes 38 0x0200000001000000010100000001010300000001000000010300544149000000000000000000) ≡ pair_line done_word 12 0
unfolding computes
mixed = refl

-- `n` times the same records
abbrev many : ℕ → List ℕ → List ℕ
many zero l = []
many (suc n) l = l ++ many n l

-- "a 257th signal or 65th vector is 2 at that record, after 7"
pub signal_257 : Refuses (many 257 (big_bytes 10 0x01070000000100000000)) 2 2560
unfolding computes
signal_257 = refl

pub signal_257_cut : Refuses (many 256 (big_bytes 10 0x01020000000100000000) ++ (1 ∷ [])) 7 2560
unfolding computes
signal_257_cut = refl

pub vector_65 : Refuses (many 65 (big_bytes 14 0x0200000001000000010100000001)) 2 896
unfolding computes
vector_65 = refl
