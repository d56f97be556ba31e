-- The number of an answer that a `?` hands on. Assumes nothing.
use mathlib.Core.Path.{◌≡◌, sym, ap}
use mathlib.Core.Bool.{true≢false}
use borrow.Author.Tests.{eqb-false}
use Rattle.std.proofs.Common.{Result, Ok, Err}
use Rattle.std.specs.Result.{IsErr, IsErrAnd}
use Rattle.answer.specs.declared.Refusal.{Refusal}
use Rattle.answer.specs.Refusals.{refusal_number, number_of}
use Rattle.answer.proofs.Laws.{not_done}

pub err_number : {T : Type 0} (r : Result T Refusal) (e : Refusal) → IsErr r × IsErrAnd r (λ x. x ≡ e) → number_of r ≡ refusal_number e
err_number (Ok x) e p = absurd (true≢false (sym p.0))
err_number (Err x) e p = ap refusal_number p.1

pub not_zero : (e : Refusal) → refusal_number e ≡ 0 → ⊥
not_zero e = eqb-false (refusal_number e) 0 (not_done e)
