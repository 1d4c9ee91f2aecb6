-- Walks are joined, reversed, and carried over to other steps.
use Rattle.crn_vec.proofs.Prelude.{ℕ, List, [], ◌∷◌, refl, sym, subst, inl, inr, IsAlong, LeadsTo, IsLinked, SameClass, ReactsTo, Reaches, SameStrong, IsTerminal, WeaklyReversibleByReactions}

along_then : (S : ℕ → ℕ → Type 0) (x y z : ℕ) (a b : List ℕ) → IsAlong S x a y → IsAlong S y b z → LeadsTo S x z
along_then S x y z [] b p q = (b, subst (λ (v : ℕ). IsAlong S v b z) (sym p) q)
along_then S x y z (v ∷ a) b p q = let f = along_then S v y z a b p.1 q in (v ∷ f.0, (p.0, f.1))

pub leads_then : (S : ℕ → ℕ → Type 0) (x y z : ℕ) → LeadsTo S x y → LeadsTo S y z → LeadsTo S x z
leads_then S x y z p q = along_then S x y z p.0 q.0 p.1 q.1

pub leads_here : (S : ℕ → ℕ → Type 0) (x : ℕ) → LeadsTo S x x
leads_here S x = ([], refl)

pub leads_step : (S : ℕ → ℕ → Type 0) (x y : ℕ) → S x y → LeadsTo S x y
leads_step S x y h = (y ∷ [], (h, refl))

along_back : (S : ℕ → ℕ → Type 0) → ((y z : ℕ) → S y z → S z y) → (x y : ℕ) (a : List ℕ) → IsAlong S x a y → LeadsTo S y x
along_back S back x y [] p = ([], sym p)
along_back S back x y (v ∷ a) p = leads_then S y v x (along_back S back v y a p.1) (leads_step S v x (back x v p.0))

pub leads_back : (S : ℕ → ℕ → Type 0) → ((y z : ℕ) → S y z → S z y) → (x y : ℕ) → LeadsTo S x y → LeadsTo S y x
leads_back S back x y p = along_back S back x y p.0 p.1

-- what holds at x and goes along each step holds at z
pub along_keeps : (S : ℕ → ℕ → Type 0) (P : ℕ → Type 0) → ((y z : ℕ) → S y z → P y → P z) → (x z : ℕ) (a : List ℕ) → IsAlong S x a z → P x → P z
along_keeps S P step x z [] h p = subst P h p
along_keeps S P step x z (v ∷ a) h p = along_keeps S P step v z a h.1 (step x v h.0 p)

pub leads_keeps : (S : ℕ → ℕ → Type 0) (P : ℕ → Type 0) → ((y z : ℕ) → S y z → P y → P z) → (x z : ℕ) → LeadsTo S x z → P x → P z
leads_keeps S P step x z h p = along_keeps S P step x z h.0 h.1 p

-- ---- links and reactions

pub linked_back : (rs : List (ℕ × ℕ)) (y z : ℕ) → IsLinked rs y z → IsLinked rs z y
linked_back rs y z (inl h) = inr h
linked_back rs y z (inr h) = inl h

pub class_then : (rs : List (ℕ × ℕ)) (x y z : ℕ) → SameClass rs x y → SameClass rs y z → SameClass rs x z
class_then rs x y z p q = leads_then (IsLinked rs) x y z p q

pub class_back : (rs : List (ℕ × ℕ)) (x y : ℕ) → SameClass rs x y → SameClass rs y x
class_back rs x y p = leads_back (IsLinked rs) (linked_back rs) x y p

pub class_link : (rs : List (ℕ × ℕ)) (x y : ℕ) → IsLinked rs x y → SameClass rs x y
class_link rs x y h = leads_step (IsLinked rs) x y h

pub reaches_then : (rs : List (ℕ × ℕ)) (x y z : ℕ) → Reaches rs x y → Reaches rs y z → Reaches rs x z
reaches_then rs x y z p q = leads_then (ReactsTo rs) x y z p q

pub reaches_step : (rs : List (ℕ × ℕ)) (x y : ℕ) → ReactsTo rs x y → Reaches rs x y
reaches_step rs x y h = leads_step (ReactsTo rs) x y h

pub strong_then : (rs : List (ℕ × ℕ)) (x y z : ℕ) → SameStrong rs x y → SameStrong rs y z → SameStrong rs x z
strong_then rs x y z p q = (reaches_then rs x y z p.0 q.0, reaches_then rs z y x q.1 p.1)

pub strong_back : (rs : List (ℕ × ℕ)) (x y : ℕ) → SameStrong rs x y → SameStrong rs y x
strong_back rs x y p = (p.1, p.0)

pub strong_here : (rs : List (ℕ × ℕ)) (x : ℕ) → SameStrong rs x x
strong_here rs x = (leads_here (ReactsTo rs) x, leads_here (ReactsTo rs) x)

-- what reaches lies in one linkage class
pub reaches_class : (rs : List (ℕ × ℕ)) (x y : ℕ) → Reaches rs x y → SameClass rs x y
reaches_class rs x y h = leads_keeps (ReactsTo rs) (λ z. SameClass rs x z) (λ y z s p. class_then rs x y z p (class_link rs y z (inl s))) x y h (leads_here (IsLinked rs) x)

pub strong_class : (rs : List (ℕ × ℕ)) (x y : ℕ) → SameStrong rs x y → SameClass rs x y
strong_class rs x y h = reaches_class rs x y h.0

-- what a terminal class reaches is terminal too
pub terminal_on : (rs : List (ℕ × ℕ)) (y z : ℕ) → IsTerminal rs y → Reaches rs y z → IsTerminal rs z
terminal_on rs y z t h w k = reaches_then rs w y z (t w (reaches_then rs y z w h k)) h

pub weakly_reversible_by_reactions : WeaklyReversibleByReactions
weakly_reversible_by_reactions rs = (
  λ stays y z walk.
      leads_keeps (IsLinked rs) (λ v. SameStrong rs y v) (λ v w link p. strong_then rs y v w p (elim link [ inl h ↦ stays v w h | inr h ↦ strong_back rs w v (stays w v h) ])) y z walk (strong_here rs y),
  λ weak y z h. weak y z (class_link rs y z (inl h)),
)
