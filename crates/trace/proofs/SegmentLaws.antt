-- How many segments a trace has, and what each of them has.
use Prim.Native.Nat.{ℕ, zero, suc, ◌+◌, ◌-◌, ◌≤◌, ◌<◌}
use borrow.Author.Tests.{not-false}
use lib.ListN.{length, length-append, take, get_or}
use mathlib.Core.Bool.{Bool, true, false, cond}
use mathlib.Core.List.{List, [], ◌∷◌, ◌++◌}
use mathlib.Core.Path.{◌≡◌, refl, sym, ◌∙◌, ap}
use native.Mathlib.Decide.{ℕ_discrete}
use native.Mathlib.Nat.{add-zero, le_of_suc-le-suc, not-suc-le-zero}
use native.Mathlib.Omega.{arith}
use Rattle.counting.proofs.FirstLaws.{first_le, first_before, first_passes}
use Rattle.counting.proofs.TestLaws.{not_both}
use Rattle.counting.specs.First.{first}
use Rattle.history.proofs.ChoiceLaws.{same_equal, same_refl}
use Rattle.history.specs.Choice.{Choice, nobody, given, History}
use Rattle.trace.specs.declared.Segment.{Segment}
use Rattle.trace.proofs.StretchLaws.{Alike}
use Rattle.trace.specs.Trace.{begins, lasting, segments_of, begun, trace}
use Rattle.trace.proofs.TraceLaws.{differs}
use Rattle.trace.specs.Segments.{EverySegment, Stretch}

every_append : (P : Segment → Type 0) (a b : List Segment) → EverySegment P a → EverySegment P b → EverySegment P (a ++ b)
every_append P [] b x y = y
every_append P (s ∷ a) b x y = (x.0, every_append P a b x.1 y)

-- the first n of a list all of whose segments have P
pub every_take : (P : Segment → Type 0) (n : ℕ) (l : List Segment) → EverySegment P l → EverySegment P (take n l)
every_take P zero l x = tt
every_take P (suc n) [] x = tt
every_take P (suc n) (s ∷ l) x = (x.0, every_take P n l x.1)

-- what follows for each of them
pub every_map : {P Q : Segment → Type 0} → ((s : Segment) → P s → Q s) → (l : List Segment) → EverySegment P l → EverySegment Q l
every_map f [] x = tt
every_map f (s ∷ l) x = (f s x.0, every_map f l x.1)

-- the one at place k of it
pub every_at : (P : Segment → Type 0) (l : List Segment) (d : Segment) → EverySegment P l → (k : ℕ) → k < length l → P (get_or l k d)
every_at P [] d x k h = absurd (not-suc-le-zero h)
every_at P (s ∷ l) d x zero h = x.0
every_at P (s ∷ l) d x (suc k) h = every_at P l d x.1 k (le_of_suc-le-suc h)

module _ (h : History) (N : ℕ) where
  -- there are no more segments than ticks
  pub begun_few : (t : ℕ) → length (begun h N t) ≤ t
  unfolding begun
  begun_few zero = omega arith
  begun_few (suc t) =
      omega (
        arith,
        begun_few t,
        length-append (begun h N t) (cond (begins h t) (segments_of (h t) t (lasting h N t)) []),
        one (begins h t) (h t),
      )
    where
      one : (b : Bool) (c : Choice) → length (cond b (segments_of c t (lasting h N t)) []) ≤ 1
      one true nobody = omega arith
      one true (given i d) = omega arith
      one false c = omega arith

  -- a stretch ends by the horizon
  pub lasting_ends : (b : ℕ) → b ≤ N → b + lasting h N b ≤ N
  unfolding lasting
  lasting_ends b le = omega (arith, first_le (N - b) (differs h b))

  -- Of the stretch that begins at b, before the horizon.
  module _ (b : ℕ) (before : b < N) where
    -- it has a tick
    lasting_some : 1 ≤ lasting h N b
    unfolding lasting
    lasting_some = go (ℕ_discrete (first (N - b) (differs h b)) 0)
      where
        go : Dec (first (N - b) (differs h b) ≡ 0) → 1 ≤ first (N - b) (differs h b)
        go (no some) = omega arith
        go (yes none) =
            not_both (rw none at (first_passes (N - b) (differs h b) (omega arith))) (rw (add-zero b, same_refl (h b)))

    -- its ticks are given alike
    lasting_all : Alike h b (lasting h N b)
    unfolding lasting
    lasting_all q l = sym (same_equal (h b) (h (b + q)) (not-false _ (first_before (N - b) (differs h b) q l)))

    -- and where it ends before the horizon the next tick is given otherwise
    lasting_behind : b + lasting h N b < N → h (b + lasting h N b) ≡ h b → ⊥
    unfolding lasting
    lasting_behind early e =
        not_both (first_passes (N - b) (differs h b) (omega arith)) (rw (e, same_refl (h b)))

  -- so is the tick before a stretch
  begins_before : (b : ℕ) → begins h b ≡ true → (t : ℕ) → suc t ≡ b → h t ≡ h b → ⊥
  unfolding begins
  begins_before zero e t q same = let no : ⊥ = omega arith in absurd no
  begins_before (suc b) e t q same =
      let here : t ≡ b = omega arith in
      not_both e (rw (sym (ap h here) ∙ same, same_refl (h (suc b))))

  -- what the segment of any longest stretch before N has, every segment has
  pub begun_every : (P : Segment → Type 0)
      → ((b k : ℕ) → 1 ≤ k → b + k ≤ N → Alike h b k → ((t : ℕ) → suc t ≡ b → h t ≡ h b → ⊥) → (b + k < N → h (b + k) ≡ h b → ⊥)
      → EverySegment P (segments_of (h b) b k))
      → (t : ℕ) → t ≤ N → EverySegment P (begun h N t)
  unfolding begun
  begun_every P has zero le = tt
  begun_every P has (suc t) le =
      every_append P (begun h N t) _ (begun_every P has t (omega arith)) (go (begins h t) refl)
    where
      go : (b : Bool) → begins h t ≡ b → EverySegment P (cond b (segments_of (h t) t (lasting h N t)) [])
      go true e =
          has t (lasting h N t) (lasting_some t le) (lasting_ends t (omega arith)) (lasting_all t le) (begins_before t e) (lasting_behind t le)
      go false e = tt

-- every one of them has it
pub trace_stretches : (h : History) (N : ℕ) → EverySegment (Stretch h N) (trace h N)
trace_stretches h N =
    begun_every h N (Stretch h N) (λ b k some ends all before behind. go b k some ends (h b) all before behind) N (omega arith)
  where
    go : (b k : ℕ) → 1 ≤ k → b + k ≤ N → (c : Choice) → ((q : ℕ) → q < k → h (b + q) ≡ c) → ((t : ℕ) → suc t ≡ b → h t ≡ c → ⊥)
        → (b + k < N → h (b + k) ≡ c → ⊥) → EverySegment (Stretch h N) (segments_of c b k)
    go b k some ends nobody all before behind = tt
    go b k some ends (given i d) all before behind =
        (record { some = some; ends = ends; all = all; before = before; behind = behind }, tt)
