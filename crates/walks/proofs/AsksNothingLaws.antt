-- A function with no `requires` asks for nothing: that follows from anything.
use seplogic.Ra.Ura.{Ura}
use base.Logic.{SProp, emp, emp∗, ent, fst∗, via}

pub no_premise : {M : Type 1} (𝓤 : Ura M) (P : SProp 𝓤) → ent 𝓤 P (emp 𝓤)
no_premise 𝓤 P = via 𝓤 _ (emp∗ 𝓤 P) (fst∗ 𝓤 (emp 𝓤) P)
