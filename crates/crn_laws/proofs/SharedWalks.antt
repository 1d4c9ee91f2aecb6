-- Walks, linkage classes and reversibility do not depend on the numbering.
use Rattle.crn_laws.proofs.Prelude.{ℕ, ◌<◌, inl, inr, List, [], ◌∷◌, length, map, refl, sym, ap, subst, ◌∙◌, length-map, IsIn, Net, IsNetwork, IsAlong, LeadsTo, AreApart, IsNumberOf, IsLinked, SameClass, ReactsTo, Reaches, SameStrong, IsReversible, IsWeaklyReversible, StaysStrong, IsComplex, in_map, inside_at, map_in, weakly_reversible_by_reactions, IsRenumbered}
use Rattle.crn_laws.proofs.Renumberings.{reacts_anew, turned_net}

along_anew : (S T : ℕ → ℕ → Type 0) (f : ℕ → ℕ) → ((y z : ℕ) → S y z → T (f y) (f z)) → (y z : ℕ) (steps : List ℕ) → IsAlong S y steps z → IsAlong T (f y) (map f steps) (f z)
along_anew S T f step y z [] h = ap f h
along_anew S T f step y z (x ∷ steps) h = (step y x h.0, along_anew S T f step x z steps h.1)

pub leads_anew : (S T : ℕ → ℕ → Type 0) (f : ℕ → ℕ) → ((y z : ℕ) → S y z → T (f y) (f z)) → (y z : ℕ) → LeadsTo S y z → LeadsTo T (f y) (f z)
leads_anew S T f step y z walk = (map f walk.0, along_anew S T f step y z walk.0 walk.1)

pub linked_anew : (net other : Net) (h : IsRenumbered net other) (y z : ℕ) → IsLinked net.reactions y z → IsLinked other.reactions (h.complexes.to y) (h.complexes.to z)
linked_anew net other h y z (inl i) = inl (reacts_anew net other h y z i)
linked_anew net other h y z (inr i) = inr (reacts_anew net other h z y i)

pub class_anew : (net other : Net) (h : IsRenumbered net other) (y z : ℕ) → SameClass net.reactions y z → SameClass other.reactions (h.complexes.to y) (h.complexes.to z)
class_anew net other h y z walk = leads_anew (IsLinked net.reactions) (IsLinked other.reactions) h.complexes.to (linked_anew net other h) y z walk

pub reaches_anew : (net other : Net) (h : IsRenumbered net other) (y z : ℕ) → Reaches net.reactions y z → Reaches other.reactions (h.complexes.to y) (h.complexes.to z)
reaches_anew net other h y z walk = leads_anew (ReactsTo net.reactions) (ReactsTo other.reactions) h.complexes.to (reacts_anew net other h) y z walk

pub strong_anew : (net other : Net) (h : IsRenumbered net other) (y z : ℕ) → SameStrong net.reactions y z → SameStrong other.reactions (h.complexes.to y) (h.complexes.to z)
strong_anew net other h y z s = (reaches_anew net other h y z s.0, reaches_anew net other h z y s.1)

-- ---- reversibility

-- a reaction of the other network as one of this, and what holds of it there
from_there : (net other : Net) → IsNetwork net → IsNetwork other → (h : IsRenumbered net other) (P : ℕ → ℕ → Type 0) → ((y z : ℕ) → ReactsTo net.reactions y z → P (h.complexes.to y) (h.complexes.to z)) → (y z : ℕ) → ReactsTo other.reactions y z → P y z
from_there net other n o h P step y z i =
    let inside = inside_at (length other.complexes) other.reactions o.partial.apart y z i in
    let back = h.complexes.back in
    subst (λ (a : ℕ). P a z) (h.complexes.to_back y inside.0)
    (subst (λ (b : ℕ). P (h.complexes.to (back y)) b) (h.complexes.to_back z inside.1)
    (step (back y) (back z) (reacts_anew other net (turned_net net other n h) y z i)))

pub reversible_anew : (net other : Net) → IsNetwork net → IsNetwork other → IsRenumbered net other → IsReversible net.reactions → IsReversible other.reactions
reversible_anew net other n o h rev = from_there net other n o h (λ y z. ReactsTo other.reactions z y) (λ y z i. reacts_anew net other h z y (rev y z i))

pub weakly_anew : (net other : Net) → IsNetwork net → IsNetwork other → IsRenumbered net other → IsWeaklyReversible net.reactions → IsWeaklyReversible other.reactions
weakly_anew net other n o h weak =
    let stays : StaysStrong net.reactions = (weakly_reversible_by_reactions net.reactions).1 weak in
    (weakly_reversible_by_reactions other.reactions).0 (from_there net other n o h (SameStrong other.reactions) (λ y z i. strong_anew net other h y z (stays y z i)))

-- ---- the number of linkage classes

apart_anew : (S T : ℕ → ℕ → Type 0) (f : ℕ → ℕ) (ys : List ℕ) → ((y z : ℕ) → IsIn y ys → IsIn z ys → T (f y) (f z) → S y z) → AreApart S ys → AreApart T (map f ys)
apart_anew S T f [] back apart = tt
apart_anew S T f (y ∷ ys) back apart = (
  λ z i s.
      let m = in_map f ys z i in
      apart.0 m.0 m.1 (back y m.0 (inl refl) (inr m.1) (subst (λ (w : ℕ). T (f y) w) m.2 s)),
  apart_anew S T f ys (λ a b i j. back a b (inr i) (inr j)) apart.1,
)

-- as many classes of complexes with a property that goes over both ways
pub number_anew : (net other : Net) (h : IsRenumbered net other) (Has More : ℕ → Type 0) (S T : ℕ → ℕ → Type 0)
    → ((y : ℕ) → Has y → (y < length net.complexes) × More (h.complexes.to y)) → ((z : ℕ) → More z → (z < length other.complexes) × Has (h.complexes.back z))
    → ((y z : ℕ) → S y z → T (h.complexes.to y) (h.complexes.to z)) → ((y z : ℕ) → T y z → S (h.complexes.back y) (h.complexes.back z))
    → (k : ℕ) → IsNumberOf Has S k → IsNumberOf More T k
number_anew net other h Has More S T there here over under k (ys, are, long) =
    let to = h.complexes.to in
    let back = h.complexes.back in (
      map to ys,
      record {
        members = λ z i. let m = in_map to ys z i in subst More (sym m.2) (there m.0 (are.members m.0 m.1)).1;
        apart = apart_anew S T to ys (λ y z i j s.
            subst (λ (a : ℕ). S a z) (h.complexes.back_to y (there y (are.members y i)).0)
            (subst (λ (b : ℕ). S (back (to y)) b) (h.complexes.back_to z (there z (are.members z j)).0) (under (to y) (to z) s))) are.apart;
        each = λ z has.
            let from = here z has in
            let y = are.each (back z) from.1 in
            (to y.0, map_in to ys y.0 y.1, subst (λ (b : ℕ). T (to y.0) b) (h.complexes.to_back z from.0) (over y.0 (back z) y.2));
      },
      length-map ys to ∙ long,
    )

pub classes_anew : (net other : Net) → IsNetwork net → IsRenumbered net other → (k : ℕ) → IsNumberOf (IsComplex net) (SameClass net.reactions) k → IsNumberOf (IsComplex other) (SameClass other.reactions) k
classes_anew net other n h =
    number_anew net other h (IsComplex net) (IsComplex other) (SameClass net.reactions) (SameClass other.reactions)
    (λ y lt. (lt, h.complexes.to_below y lt)) (λ z lt. (lt, h.complexes.back_below z lt)) (class_anew net other h) (class_anew other net (turned_net net other n h))
