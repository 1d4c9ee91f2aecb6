-- Terminal classes and regularity do not depend on the numbering.
use Rattle.crn_laws.proofs.Prelude.{◌≡◌, ℕ, inl, inr, length, sym, ap, subst, ◌∙◌, Net, IsNetwork, IsLinked, SameClass, ReactsTo, Reaches, SameStrong, IsTerminal, IsReversible, IsWeaklyReversible, IsBetween, IsFreeStep, IsCutPair, IsComplex, HasOneTerminalEach, HasTerminalClasses, IsRegular, inside_at, leads_keeps, IsRenumbered, RenumberedShareClasses}
use Rattle.crn_laws.proofs.Renumberings.{turned_net}
use Rattle.crn_laws.proofs.SharedDependence.{both_ways, dependent_anew}
use Rattle.crn_laws.proofs.SharedWalks.{class_anew, leads_anew, linked_anew, number_anew, reaches_anew, reversible_anew, strong_anew, weakly_anew}

pub linked_inside : (net : Net) → IsNetwork net → (y z : ℕ) → IsLinked net.reactions y z → IsComplex net y × IsComplex net z
linked_inside net n y z (inl i) = inside_at (length net.complexes) net.reactions n.partial.apart y z i
linked_inside net n y z (inr i) = let b = inside_at (length net.complexes) net.reactions n.partial.apart z y i in (b.1, b.0)

-- what a complex reaches is a complex
reached_inside : (net : Net) → IsNetwork net → (y z : ℕ) → IsComplex net y → Reaches net.reactions y z → IsComplex net z
reached_inside net n y z inside walk = leads_keeps (ReactsTo net.reactions) (IsComplex net) (λ v w i h. (inside_at (length net.complexes) net.reactions n.partial.apart v w i).1) y z walk inside

pub terminal_anew : (net other : Net) → IsNetwork net → IsNetwork other → (h : IsRenumbered net other) (y : ℕ) → IsComplex net y → IsTerminal net.reactions y → IsTerminal other.reactions (h.complexes.to y)
terminal_anew net other n o h y inside term z walk =
    let to = h.complexes.to in
    let back = h.complexes.back in
    let there : IsComplex other z = reached_inside other o (to y) z (h.complexes.to_below y inside) walk in
    let from : Reaches net.reactions y (back z) = subst (λ (a : ℕ). Reaches net.reactions a (back z)) (h.complexes.back_to y inside) (reaches_anew other net (turned_net net other n h) (to y) z walk) in
    subst (λ (b : ℕ). Reaches other.reactions b (to y)) (h.complexes.to_back z there) (reaches_anew net other h (back z) y (term (back z) from))

-- the terminal classes of the linkage class of a complex
terminals_anew : (net other : Net) → IsNetwork net → IsNetwork other → (h : IsRenumbered net other) (y k : ℕ) → IsComplex net y → HasTerminalClasses net y k → HasTerminalClasses other (h.complexes.to y) k
terminals_anew net other n o h y k inside =
    let rs = net.reactions in
    let qs = other.reactions in
    let to = h.complexes.to in
    let back = h.complexes.back in
    let turned = turned_net net other n h in
    number_anew net other h (λ z. IsComplex net z × SameClass rs y z × IsTerminal rs z) (λ z. IsComplex other z × SameClass qs (to y) z × IsTerminal qs z) (SameStrong rs) (SameStrong qs)
    (λ z has. (has.0, (h.complexes.to_below z has.0, class_anew net other h y z has.1, terminal_anew net other n o h z has.0 has.2)))
    (λ z has. (has.0, (h.complexes.back_below z has.0, subst (λ (a : ℕ). SameClass rs a (back z)) (h.complexes.back_to y inside) (class_anew other net turned (to y) z has.1), terminal_anew other net o n turned z has.0 has.2)))
    (strong_anew net other h) (strong_anew other net turned) k

pub one_terminal_anew : (net other : Net) → IsNetwork net → IsNetwork other → IsRenumbered net other → HasOneTerminalEach net → HasOneTerminalEach other
one_terminal_anew net other n o h one z inside =
    let y = h.complexes.back z in
    let there = h.complexes.back_below z inside in
    subst (λ (a : ℕ). HasTerminalClasses other a 1) (h.complexes.to_back z inside) (terminals_anew net other n o h y 1 there (one y there))

-- ---- cut pairs

pub between_anew : (net other : Net) (h : IsRenumbered net other) (a b y z : ℕ) → IsComplex other a → IsComplex other b → IsComplex other y → IsComplex other z
    → IsBetween (h.complexes.back a) (h.complexes.back b) (h.complexes.back y) (h.complexes.back z) → IsBetween a b y z
between_anew net other h a b y z la lb ly lz is =
    let same : (c d : ℕ) → IsComplex other c → IsComplex other d → h.complexes.back c ≡ h.complexes.back d → c ≡ d = λ c d lc ld e.
    sym (h.complexes.to_back c lc) ∙ ap h.complexes.to e ∙ h.complexes.to_back d ld in
    elim is as (λ _. IsBetween a b y z) [
      | inl e ↦ inl (same y a ly la e.0, same z b lz lb e.1)
      | inr e ↦ inr (same y b ly lb e.0, same z a lz la e.1)
    ]

pub cut_anew : (net other : Net) → IsNetwork net → IsNetwork other → (h : IsRenumbered net other) (a b : ℕ) → IsLinked other.reactions a b → IsCutPair net.reactions (h.complexes.back a) (h.complexes.back b) → IsCutPair other.reactions a b
cut_anew net other n o h a b link cut =
    let ends = linked_inside other o a b link in
    let back = h.complexes.back in
    record {
      linked = link;
      cut = λ round. cut.cut (leads_anew (IsFreeStep other.reactions a b) (IsFreeStep net.reactions (back a) (back b)) back (λ y z free.
          let at = linked_inside other o y z free.0 in
          (linked_anew other net (turned_net net other n h) y z free.0, λ is. free.1 (between_anew net other h a b y z ends.0 ends.1 at.0 at.1 is))) a b round);
    }

pub regular_anew : (net other : Net) → IsNetwork net → IsNetwork other → IsRenumbered net other → IsRegular net → IsRegular other
regular_anew net other n o h regular =
    let back = h.complexes.back in
    let turned = turned_net net other n h in
    record {
      terminal = one_terminal_anew net other n o h regular.terminal;
      dependent = dependent_anew net other n o h regular.dependent;
      cut_pairs = λ y z pair.
          let at = linked_inside other o y z pair.linked in
          cut_anew net other n o h y z pair.linked (regular.cut_pairs (back y) (back z) (record {
            linked = linked_anew other net turned y z pair.linked;
            within = strong_anew other net turned y z pair.within;
            terminal = terminal_anew other net o n turned y at.0 pair.terminal;
          }));
    }

pub classes_are_shared : RenumberedShareClasses
classes_are_shared = record {
  reversible = both_ways (λ net. IsReversible net.reactions) reversible_anew;
  weakly_reversible = both_ways (λ net. IsWeaklyReversible net.reactions) weakly_anew;
  terminal = both_ways HasOneTerminalEach one_terminal_anew;
  regular = both_ways IsRegular regular_anew;
}
