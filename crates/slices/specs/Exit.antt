-- What the exit of a `?` returns, and what a nested pattern says.
-- Assumes nothing.
use Rattle.std.specs.Prelude.{◌≡◌, Result, Ok, Err, IsErrAnd}
use Rattle.std.proofs.Common.{sym, ◌∙◌, ap}
use Rattle.std.proofs.lemmas.Result.{err_from_is_err_and}

pub exit_err : {A E : Type 0} {r : Result A E} {x : E} → IsErrAnd r (λ y. y ≡ x) → r ≡ Err x
exit_err {r = r} {x = x} h = let p = err_from_is_err_and r h in p.1 ∙ ap Err p.2

pub ok_at : {A E : Type 0} {r : Result A E} {x y : A} → r ≡ Ok x → x ≡ y → r ≡ Ok y
ok_at e d = e ∙ ap Ok d
