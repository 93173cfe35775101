-- `text::add_number` meets its promise: a number below 10 is one digit; before the last digit of any other stands a tenth of it, and before
-- the tenth's last digit a hundredth of the number, which is smaller than it, or nothing.
use Rattle.std.proofs.Common.{ℕ, ◌%◌, ◌/◌, ◌<◌, [], ◌∷◌, ◌≡◌, sym, ◌∙◌, ap, arith}
use Rattle.page.specs.Page.{Added}
use Rattle.page.specs.declared.Page.{Page}
use Rattle.page.proofs.PageLaws.{adds_as, adds_from, adds_then}
use Rattle.text.specs.Line.{digit, decimal}
use Rattle.text.proofs.LineLaws.{decimal_last, decimal_more}
use Rattle.text.proofs.+add_number.Goals as goal
use Rattle.text.proofs.+add_number.Goals.{then-tenth-ge10, else-tenth-ge10}

-- a number below 10 is its last digit
decimal_one : (n : ℕ) → n < 10 → decimal n ≡ digit (n % 10) ∷ []
decimal_one n h = decimal_last n h ∙ ap (λ (d : ℕ). digit d ∷ []) (omega arith)

-- a byte that is added is added as what it equals
byte_as : {p q : Page ℕ} {b d : ℕ} → b ≡ d → Added (b ∷ []) p q → Added (d ∷ []) p q
byte_as e = adds_as (ap (λ (b : ℕ). b ∷ []) e)

pub returns-then-n-lt10 : goal.returns-then-n-lt10
returns-then-n-lt10 t c = adds_as (sym (decimal_one _ c.if-n-lt10.true)) (byte_as c.last_digit.ensures c.add_byte.ensures)

pub returns : goal.returns
returns t c =
    let one = byte_as c.last_digit-2.ensures c.add_byte-2.ensures in
    let tenth : Added (decimal (c.args.n / 10)) c.args.text.now c.add_byte-2.new.text =
    elim c.if-tenth-ge10.branch [
      | then-tenth-ge10 w ↦
          adds_as (sym (decimal_more _ w.if-tenth-ge10.true))
          (adds_then w.add_number.ensures (adds_from w.text-is one))
      | else-tenth-ge10 w ↦
          adds_as (sym (decimal_one _ w.if-tenth-ge10.false)) (adds_from w.text-is one)
    ] in
    adds_as (sym (decimal_more _ c.if-n-lt10.false)) (adds_then tenth (byte_as c.last_digit-3.ensures c.add_byte-3.ensures))
