-- How the summary grows, arrival by arrival, and how great its numbers are.
use Prim.Native.Nat.{ℕ, zero, suc, ◌+◌, ◌*◌, ◌≤◌, ◌<◌, max}
use borrow.Author.Tests.{eq-eqb, ne_eqb}
use lib.ListN.{length, length-append}
use mathlib.Core.Bool.{cond}
use mathlib.Core.List.{List, [], ◌∷◌, ◌++◌, append-nil}
use mathlib.Core.Path.{◌≡◌, refl, ◌∙◌, ap, ap₂}
use native.Mathlib.Decide.{ℕ_discrete}
use native.Mathlib.Nat.{mul-le-mul_right}
use native.Mathlib.Omega.{arith}
use Rattle.clock.specs.Clock.{ticks, until}
use Rattle.clock.specs.declared.Length.{Length}
use Rattle.clock.specs.declared.Moment.{Moment}
use Rattle.counting.proofs.TotalsLaws.{total_append, longest_append, total_le}
use Rattle.counting.specs.Totals.{total, longest}
use Rattle.finish.specs.Finish.{Finish, is_open, finished_at, is_job}
use Rattle.workfile.specs.Work.{Work}
use Rattle.summary.specs.declared.Response.{Response}
use Rattle.summary.specs.declared.Response.TheVariants.{Absent, Over}
use Rattle.summary.specs.Summary.{response_of, response_in, responses_of, finished_of, responses}

-- the total of a response, 0 where it is absent
unfoldable pub total_of : Response → ℕ
total_of Absent = 0
total_of (Over total longest) = total.ticks

-- the response with one job more
unfoldable pub with_response : Response → ℕ → Response
with_response Absent r = Over (ticks r) (ticks r)
with_response (Over total longest) r = Over (ticks (total.ticks + r)) (ticks (max longest.ticks r))

-- the cases of the two
pub total_over : (total longest : Length) → total_of (Over total longest) ≡ total.ticks
unfolding total_of
total_over total longest = refl

pub with_response_first : (r : ℕ) → with_response Absent r ≡ Over (ticks r) (ticks r)
unfolding with_response
with_response_first r = refl

pub with_response_more : (total longest : Length) (r : ℕ)
    → with_response (Over total longest) r ≡ Over (ticks (total.ticks + r)) (ticks (max longest.ticks r))
unfolding with_response
with_response_more total longest r = refl

-- with one number more a list's response has one job more
pub response_more : (l : List ℕ) (r : ℕ) → response_in (l ++ r ∷ []) ≡ with_response (response_in l) r
unfolding response_in with_response total longest
response_more [] r = ap₂ (λ (t u : ℕ). Over (ticks t) (ticks u)) (omega arith) (omega arith)
response_more (a ∷ l) r =
    ap₂ (λ (t u : ℕ). Over (ticks t) (ticks u)) (omega (arith, total_append l (r ∷ [])))
    (omega (arith, longest_append l (r ∷ [])))

-- what arrival k adds to the responses of server i, by its finish
abbrev adds : Work → ℕ → ℕ → Finish → List ℕ
adds w i k x = cond (is_job w i k) (response_of w k x) []

adds_own : (w : Work) (i k : ℕ) (x : Finish) → (w.arrival k).server ≡ i → adds w i k x ≡ response_of w k x
adds_own w i k x own = rw (eq-eqb (w.arrival k).server i own)

adds_other : (w : Work) (i k : ℕ) (x : Finish) → ((w.arrival k).server ≡ i → ⊥) → adds w i k x ≡ []
adds_other w i k x other = rw (ne_eqb (w.arrival k).server i other)

-- By one arrival more the responses of a server grow by what it adds.
module _ (w : Work) (f : ℕ → Finish) (i k : ℕ) where
  pub responses_other : ((w.arrival k).server ≡ i → ⊥) → responses_of w f i (suc k) ≡ responses_of w f i k
  unfolding responses_of
  responses_other other = rw (adds_other w i k (f k) other) (append-nil _)

  module _ (own : (w.arrival k).server ≡ i) where
    pub responses_open : f k ≡ is_open → responses_of w f i (suc k) ≡ responses_of w f i k
    unfolding responses_of
    responses_open e = rw (adds_own w i k (f k) own, e) (append-nil _)

    pub responses_at : (t : Moment) → f k ≡ finished_at t
        → responses_of w f i (suc k) ≡ responses_of w f i k ++ (until (w.arrival k).moment t).ticks ∷ []
    unfolding responses_of
    responses_at t e = rw (adds_own w i k (f k) own, e)

-- The same finishes have the same responses.
responses_by : (w : Work) (f g : ℕ → Finish) (i n : ℕ) → ((k : ℕ) → k < n → f k ≡ g k) → responses_of w f i n ≡ responses_of w g i n
unfolding responses_of
responses_by w f g i zero same = refl
responses_by w f g i (suc n) same =
    ap₂ ◌++◌ (responses_by w f g i n (λ k b. same k (omega arith))) (ap (adds w i n) (same n (omega arith)))

module _ (w : Work) (f g : ℕ → Finish) (same : (k : ℕ) → k < w.arrivals → f k ≡ g k) (i : ℕ) where
  pub finished_same : finished_of w f i ≡ finished_of w g i
  unfolding finished_of
  finished_same = ap length (responses_by w f g i w.arrivals same)

  pub responses_same : responses w f i ≡ responses w g i
  unfolding responses
  responses_same = ap response_in (responses_by w f g i w.arrivals same)

-- a server none of whose jobs has finished
none_upto : (w : Work) (f : ℕ → Finish) (i n : ℕ) → ((k : ℕ) → k < n → (w.arrival k).server ≡ i → f k ≡ is_open)
    → responses_of w f i n ≡ []
unfolding responses_of
none_upto w f i zero none = refl
none_upto w f i (suc n) none =
    ap₂ ◌++◌ (none_upto w f i n (λ k b. none k (omega arith))) (go (ℕ_discrete (w.arrival n).server i))
  where
    go : Dec ((w.arrival n).server ≡ i) → adds w i n (f n) ≡ []
    go (yes own) = adds_own w i n (f n) own ∙ ap (response_of w n) (none n (omega arith) own)
    go (no other) = adds_other w i n (f n) other

module _ (w : Work) (f : ℕ → Finish) (i : ℕ) (none : (k : ℕ) → k < w.arrivals → (w.arrival k).server ≡ i → f k ≡ is_open) where
  pub finished_none : finished_of w f i ≡ 0
  unfolding finished_of
  finished_none = ap length (none_upto w f i w.arrivals none)

  pub responses_none : responses w f i ≡ Absent
  unfolding responses response_in
  responses_none = ap response_in (none_upto w f i w.arrivals none)

-- an arrival adds one response at most
adds_few : (w : Work) (i k : ℕ) (x : Finish) → length (adds w i k x) ≤ 1
adds_few w i k x = go (ℕ_discrete (w.arrival k).server i) x
  where
    go : Dec ((w.arrival k).server ≡ i) → (x : Finish) → length (adds w i k x) ≤ 1
    go (yes own) is_open = rw (eq-eqb (w.arrival k).server i own) (omega arith)
    go (yes own) (finished_at t) = rw (eq-eqb (w.arrival k).server i own) (omega arith)
    go (no other) x = rw (ne_eqb (w.arrival k).server i other) (omega arith)

pub few_upto : (w : Work) (f : ℕ → Finish) (i n : ℕ) → length (responses_of w f i n) ≤ n
unfolding responses_of
few_upto w f i zero = omega arith
few_upto w f i (suc n) =
    omega (arith, few_upto w f i n, adds_few w i n (f n), length-append (responses_of w f i n) (adds w i n (f n)))

pub finished_le : (w : Work) (f : ℕ → Finish) (i : ℕ) → finished_of w f i ≤ w.arrivals
unfolding finished_of
finished_le w f i = few_upto w f i w.arrivals

-- responses that are at most N add up to at most N for each arrival
longest_upto : (w : Work) (f : ℕ → Finish) (i N n : ℕ) → ((k : ℕ) → k < n → longest (response_of w k (f k)) ≤ N)
    → longest (responses_of w f i n) ≤ N
unfolding responses_of longest
longest_upto w f i N zero each = omega arith
longest_upto w f i N (suc n) each =
    omega (
      arith,
      longest_upto w f i N n (λ k b. each k (omega arith)),
      longest_append (responses_of w f i n) (adds w i n (f n)),
      go (ℕ_discrete (w.arrival n).server i),
    )
  where
    go : Dec ((w.arrival n).server ≡ i) → longest (adds w i n (f n)) ≤ N
    go (yes own) = rw (adds_own w i n (f n) own) (each n (omega arith))
    go (no other) = rw (adds_other w i n (f n) other) (omega arith)

total_in : (l : List ℕ) → total_of (response_in l) ≡ total l
unfolding total_of response_in total
total_in [] = refl
total_in (r ∷ more) = refl

pub total_upto : (w : Work) (f : ℕ → Finish) (i N n : ℕ) → ((k : ℕ) → k < n → longest (response_of w k (f k)) ≤ N)
    → total_of (response_in (responses_of w f i n)) ≤ n * N
total_upto w f i N n each =
    omega (
      arith,
      total_in (responses_of w f i n),
      total_le N (responses_of w f i n) (longest_upto w f i N n each),
      mul-le-mul_right N (few_upto w f i n),
    )

pub responses_total : (w : Work) (f : ℕ → Finish) (i N : ℕ) → ((k : ℕ) → k < w.arrivals → longest (response_of w k (f k)) ≤ N)
    → total_of (responses w f i) ≤ w.arrivals * N
unfolding responses
responses_total w f i N each = total_upto w f i N w.arrivals each
