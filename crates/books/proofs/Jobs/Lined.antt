-- The jobs of each server, one behind the other.
use Prim.Native.Nat.{ℕ, suc, ◌≤◌, ◌<◌}
use lib.ListN.{length, get_or, set, length-set, replicate, length-replicate, get_or-replicate}
use lib.Seq.{get_or-set_same, get_or-set_other}
use mathlib.Core.List.{List}
use mathlib.Core.Path.{◌≡◌, refl, sym, ◌∙◌, subst⁻¹}
use native.Mathlib.Decide.{ℕ_discrete}
use native.Mathlib.Omega.{arith}
use Rattle.sizes.specs.Sizes.{most_arrivals, most_servers}
use Rattle.workfile.specs.Work.{Work}
use Rattle.books.specs.declared.JobLines.{JobLines}
use Rattle.books.proofs.Jobs.Jobs.{NextJob, work_other}

-- Of the arrivals from k on: the first job of each server, and the job behind each.
pub record Lined (w : Work) (k : ℕ) (first behind : List ℕ) : Type 0 where
  pub first_places : length first ≡ most_servers
  pub behind_places : length behind ≡ most_arrivals
  pub firsts : (i : ℕ) → i < most_servers → NextJob w i k (get_or first i 0)
  pub behinds : (a : ℕ) → k ≤ a → a < w.arrivals → NextJob w (w.arrival a).server (suc a) (get_or behind a 0)

-- what a run keeps of it: the job behind each of all arrivals
pub record Follow (w : Work) (behind : List ℕ) : Type 0 where
  pub places : length behind ≡ most_arrivals
  pub behinds : (a : ℕ) → a < w.arrivals → NextJob w (w.arrival a).server (suc a) (get_or behind a 0)

pub lined_follow : {w : Work} {first behind : List ℕ} → Lined w 0 first behind → Follow w behind
lined_follow l = record { places = l.behind_places; behinds = λ a to. l.behinds a (omega arith) to }

-- before they are lined up: each server's is the count of all arrivals
pub record Unlined (w : Work) (l : JobLines) : Type 0 where
  pub job_is : l.job ≡ replicate most_servers w.arrivals
  pub places : length l.behind ≡ most_arrivals

-- behind all arrivals no server has a job
pub lined_none : {w : Work} {behind : List ℕ} → length behind ≡ most_arrivals
    → Lined w w.arrivals (replicate most_servers w.arrivals) behind
lined_none {w} places =
    record {
      first_places = length-replicate most_servers w.arrivals;
      behind_places = places;
      firsts = λ i b.
          subst⁻¹ (NextJob w i w.arrivals) (get_or-replicate most_servers i w.arrivals 0 b)
          record { own = λ l. let no : ⊥ = omega arith in absurd no; none = refl };
      behinds = λ a from to. let no : ⊥ = omega arith in absurd no;
    }

-- one arrival more, before them: it is its server's first job, and that which was stands behind it
module _ {w : Work} {k : ℕ} {first behind : List ℕ} (l : Lined w (suc k) first behind) (more : k < most_arrivals)
    (known : (w.arrival k).server < most_servers) where
  pub lined_more : Lined w k (set first (w.arrival k).server k) (set behind k (get_or first (w.arrival k).server 0))
  lined_more =
      record {
        first_places = simp length-set l.first_places;
        behind_places = simp length-set l.behind_places;
        firsts = λ i b. firsts i b (ℕ_discrete i (w.arrival k).server);
        behinds = λ a from to. behinds a from to (ℕ_discrete a k);
      }
    where
      firsts : (i : ℕ) → i < most_servers → Dec (i ≡ (w.arrival k).server) → NextJob w i k (get_or (set first (w.arrival k).server k) i 0)
      firsts i b (yes q) =
          subst⁻¹ (λ (i : ℕ). NextJob w i k (get_or (set first (w.arrival k).server k) i 0)) q
          (subst⁻¹ (NextJob w (w.arrival k).server k)
          (get_or-set_same first (w.arrival k).server k 0 (omega (arith, l.first_places)))
          record { own = λ l. refl; none = refl })
      firsts i b (no n) =
          subst⁻¹ (NextJob w i k) (get_or-set_other first (w.arrival k).server i k 0 n)
          record { own = (l.firsts i b).own; none = (l.firsts i b).none ∙ work_other w i k (λ e. n (sym e)) }

      behinds : (a : ℕ) → k ≤ a → a < w.arrivals → Dec (a ≡ k)
          → NextJob w (w.arrival a).server (suc a) (get_or (set behind k (get_or first (w.arrival k).server 0)) a 0)
      behinds a from to (yes q) =
          subst⁻¹
          (λ (a : ℕ). NextJob w (w.arrival a).server (suc a) (get_or (set behind k (get_or first (w.arrival k).server 0)) a 0))
          q
          (subst⁻¹ (NextJob w (w.arrival k).server (suc k))
          (get_or-set_same behind k (get_or first (w.arrival k).server 0) 0 (omega (arith, l.behind_places)))
          (l.firsts (w.arrival k).server known))
      behinds a from to (no n) =
          subst⁻¹ (NextJob w (w.arrival a).server (suc a))
          (get_or-set_other behind k a (get_or first (w.arrival k).server 0) 0 n)
          (l.behinds a (omega arith) to)
