-- What true earlier verdicts give to later questions.
use Rattle.crn_cert.proofs.Prelude.{ℕ, ◌-◌, ◌<◌, ◌≤◌, List, [], ◌∷◌, length, get_or, refl, sym, ap, subst, ◌∙◌, inl, inr, arith, range_with_len, count_by, Net, SameClass, IsLabelCount, IsNumberOf, SameStrong, IsTerminal, IsWeaklyReversible, IsComplex, HasTerminalClasses, HasOneTerminalEach, IsFirstSplitClass, IsPositivelyDependent, IsRegular, strong_then, strong_back, weakly_reversible_by_reactions, reaction_in, Verdict, Classes, Strong, Yes, YesWeak, YesVec, NoReaction, NoVec, NoTerminal, NoDependence, NoCycle, Earlier, Q1, Q2, Q4, Q7, Q11, on, labels_of, count_of, exits_of, terminal_of, IsYes, IsNo, IsTrueOf, AreLinkageClasses, AreStrongClasses, IsTrueOrOpen, linkage, linkage_count, strong, exits, is_terminal_in, terminals_in, HaveOneEach, IsFirstSplit}
use Rattle.crn_cert.proofs.StrongRight.{class_terminals}

-- ---- the classes

pub linkage_known : (net : Net) (v : Verdict) → IsTrueOf net Q1 v → AreLinkageClasses net (count_of v) (labels_of v)
linkage_known net (Classes count label) h = h
linkage_known net v h = absurd h

pub record StrongKnown (net : Net) (count : ℕ) (labels exits : List ℕ) : Type 0 where
  pub terminal : ℕ
  pub is : AreStrongClasses net count terminal labels exits

pub strong_known : (net : Net) (v : Verdict) → IsTrueOf net Q2 v → StrongKnown net (count_of v) (labels_of v) (exits_of v)
strong_known net (Strong count terminal label exit) h = record { terminal = terminal; is = h }
strong_known net v h = absurd h

-- the number of terminal classes of a true verdict
pub terminal_known : (net : Net) (v : Verdict) → IsTrueOf net Q2 v → IsNumberOf (λ y. IsComplex net y × IsTerminal net.reactions y) (SameStrong net.reactions) (terminal_of v)
terminal_known net (Strong count terminal label exit) h = h.terminal_is
terminal_known net v h = absurd h

-- what later questions know of the classes
pub record ClassesKnown (net : Net) (earlier : Earlier) : Type 0 where
  pub linkage_is : AreLinkageClasses net (linkage_count earlier) (linkage earlier)
  pub strong_is : StrongKnown net (count_of (on earlier Q2)) (strong earlier) (exits earlier)

pub classes_known : (net : Net) (earlier : Earlier) → IsTrueOf net Q1 (on earlier Q1) → IsTrueOf net Q2 (on earlier Q2) → ClassesKnown net earlier
classes_known net earlier a b = record { linkage_is = linkage_known net (on earlier Q1) a; strong_is = strong_known net (on earlier Q2) b }

-- the number of terminal classes of the linkage class of y
pub terminals_known : (net : Net) (earlier : Earlier) (y : ℕ) → ClassesKnown net earlier → IsComplex net y → HasTerminalClasses net y (terminals_in earlier (get_or (linkage earlier) y 0))
terminals_known net earlier y k ly =
    let s = k.strong_is.is in
    let counted : IsLabelCount (strong earlier) (length (exits earlier)) = subst (IsLabelCount (strong earlier)) (sym s.classes) s.count_is in
    subst (λ (n : ℕ). HasTerminalClasses net y (count_by (is_terminal_in (strong earlier) (exits earlier) (linkage earlier) (get_or (linkage earlier) y 0)) (range_with_len 1 n))) s.classes
    (class_terminals net (linkage earlier) (strong earlier) (exits earlier) y k.linkage_is.labelled s.places s.right counted s.exits_are ly)

pub one_each : (net : Net) (earlier : Earlier) → ClassesKnown net earlier → HaveOneEach earlier → HasOneTerminalEach net
one_each net earlier k one y ly =
    let l = k.linkage_is in
    let at : y < length (linkage earlier) = omega (arith, ly, l.labelled.long) in
    let most = l.count_is.most y at in
    subst (HasTerminalClasses net y) (one (get_or (linkage earlier) y 0) (l.labelled.right.positive y at) (omega (arith, most))) (terminals_known net earlier y k ly)

pub first_split : (net : Net) (earlier : Earlier) (k count : ℕ) → ClassesKnown net earlier → 1 ≤ k → k ≤ linkage_count earlier → IsFirstSplit earlier k count → IsFirstSplitClass net k count
first_split net earlier k count known some most split =
    let l = known.linkage_is in
    let y = l.count_is.each k some most in
    let complex : (z : ℕ) → z < length (linkage earlier) → IsComplex net z = λ z lz. omega (arith, lz, l.labelled.long) in
    record {
      labels = linkage earlier;
      labelled = l.labelled;
      y = y.0;
      place = y.1;
      member = y.2;
      classes = subst (HasTerminalClasses net y.0) (ap (terminals_in earlier) y.2 ∙ split.0) (terminals_known net earlier y.0 known (complex y.0 y.1));
      several = split.1;
      before = λ z lz less. subst (HasTerminalClasses net z) (split.2 (get_or (linkage earlier) z 0) (l.labelled.right.positive z lz) less) (terminals_known net earlier z known (complex z lz));
    }

-- ---- one class and several exclude each other

pub not_several : (Has : ℕ → Type 0) (rs : List (ℕ × ℕ)) (n : ℕ) → IsNumberOf Has (SameStrong rs) 1 → IsNumberOf Has (SameStrong rs) n → 2 ≤ n → ⊥
not_several Has rs n (ts, r, e) ([], q, f) le = absurd (omega (arith, f, le))
not_several Has rs n (ts, r, e) (a ∷ [], q, f) le = absurd (omega (arith, f, le))
not_several Has rs n ([], r, e) (a ∷ b ∷ ys, q, f) le = absurd (omega arith)
not_several Has rs n (t ∷ [], r, e) (a ∷ b ∷ ys, q, f) le =
    let at_t : (z : ℕ) → Has z → SameStrong rs t z = λ z has.
    let w = r.each z has in
    elim w.1 [ inl i ↦ subst (λ (v : ℕ). SameStrong rs v z) i w.2 | inr i ↦ absurd i ] in
    q.apart.0 b (inl refl) (strong_then rs a t b (strong_back rs t a (at_t a (q.members a (inl refl)))) (at_t b (q.members b (inr (inl refl)))))
not_several Has rs n (t ∷ u ∷ ts, r, e) (a ∷ b ∷ ys, q, f) le = absurd (omega arith)

pub split_not_regular : (net : Net) (k count : ℕ) → IsFirstSplitClass net k count → IsRegular net → ⊥
split_not_regular net k count s regular =
    let complex : IsComplex net s.y = omega (arith, s.place, s.labelled.long) in
    not_several (λ z. IsComplex net z × SameClass net.reactions s.y z × IsTerminal net.reactions z) net.reactions count (regular.terminal s.y complex) s.classes s.several

-- ---- yes and no

pub dependent_yes : (net : Net) (v : Verdict) → IsYes v → IsTrueOrOpen net Q7 v → IsPositivelyDependent net
dependent_yes net (YesVec vector) y h = (vector.list, h)
dependent_yes net Yes y h = absurd h
dependent_yes net (YesWeak weak) y h = absurd h
dependent_yes net v y h = absurd y

pub dependent_no : (net : Net) (v : Verdict) → IsNo v → IsTrueOrOpen net Q7 v → IsPositivelyDependent net → ⊥
dependent_no net (NoVec multipliers) n h = h.1
dependent_no net (NoReaction reaction) n h = absurd h
dependent_no net (NoTerminal class count) n h = absurd h
dependent_no net NoDependence n h = absurd h
dependent_no net (NoCycle reaction walk) n h = absurd h
dependent_no net v n h = absurd n

pub regular_yes : (net : Net) (v : Verdict) → IsYes v → IsTrueOrOpen net Q11 v → IsRegular net
regular_yes net Yes y h = h
regular_yes net (YesWeak weak) y h = absurd h
regular_yes net (YesVec vector) y h = absurd h
regular_yes net v y h = absurd y

pub regular_no : (net : Net) (v : Verdict) → IsNo v → IsTrueOrOpen net Q11 v → IsRegular net → ⊥
regular_no net (NoTerminal k count) n h = split_not_regular net k count h
regular_no net NoDependence n h = λ r. h.1 r.dependent
regular_no net (NoCycle r walk) n h = λ g. h.1.no_cut_pair (g.cut_pairs h.1.y h.1.z h.1.pair)
regular_no net (NoReaction reaction) n h = absurd h
regular_no net (NoVec multipliers) n h = absurd h
regular_no net v n h = absurd n

pub weak_yes : (net : Net) (v : Verdict) → IsTrueOf net Q4 v → IsYes v → IsWeaklyReversible net.reactions
weak_yes net Yes h y = (weakly_reversible_by_reactions net.reactions).0 h
weak_yes net (NoReaction r) h y = absurd y
weak_yes net v h y = absurd h

pub weak_no : (net : Net) (v : Verdict) → IsTrueOf net Q4 v → IsWeaklyReversible net.reactions → IsYes v
weak_no net Yes h w = tt
weak_no net (NoReaction r) h w = absurd (h.3 ((weakly_reversible_by_reactions net.reactions).1 w h.0 h.1 (reaction_in net.reactions (r - 1) (h.0, h.1) h.2.1.0 h.2.1.1)))
weak_no net v h w = absurd h
