-- What `list` and `print` promise determines their answer and the text: two outcomes that meet it are equal.
-- Assumes nothing.
use Rattle.std.specs.Prelude.{◌≡◌, ℕ, List}
use Rattle.std.proofs.Common.{sym, ◌∙◌}
use Rattle.plain_text.specs.Text.{Holds, Prints}

module _ {room l a b : List ℕ} {m n : ℕ} where
  pub list_unique : Holds room l a m → Holds room l b n → (a ≡ b) × (m ≡ n)
  list_unique p q = (p.text ∙ sym q.text, p.count ∙ sym q.count)

  pub print_unique : Prints room l a m → Prints room l b n → (a ≡ b) × (m ≡ n)
  print_unique p q = (p.text ∙ sym q.text, p.count ∙ sym q.count)
