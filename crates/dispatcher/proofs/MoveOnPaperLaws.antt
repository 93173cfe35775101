-- What a move says on paper tells what it handed back.
use mathlib.Core.Path.{◌≡◌, ap, ap₂}
use Rattle.refusal.proofs.OnPaperLaws.{answer_told}
use Rattle.refusal.specs.Refusals.{on_paper}
use Rattle.refusal.specs.declared.Refusal.{Refusal}
use Rattle.std.specs.Prelude.{Result}
use Rattle.dispatcher.specs.declared.Dispatcher.{Dispatcher}
use Rattle.dispatcher.specs.declared.Reply.{Reply}
use Rattle.dispatcher.specs.Moves.{Answered, leaving, reply_says}

-- Of whatever is made of an answer and a dispatcher: what it says tells it.
pub moved_told : {A R : Type 0} (made : Result A Refusal → Dispatcher → R) (v w : Result A Refusal) (d e : Dispatcher)
    → leaving (on_paper v) d ≡ leaving (on_paper w) e → made v d ≡ made w e
moved_told made v w d e p =
    ap₂ made (answer_told v w (ap (λ (m : Answered _). m.answer) p)) (ap (λ (m : Answered _). m.dispatcher) p)

-- what a reply says tells it
pub reply_told : {A : Type 0} (r s : Reply A) → reply_says r ≡ reply_says s → r ≡ s
reply_told r s = moved_told (λ v d. record { answer = v; dispatcher = d }) r.answer s.answer r.dispatcher s.dispatcher
