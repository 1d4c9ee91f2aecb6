-- Labels, trees, levels and exits that pass the tests are right.
use Rattle.crn_cert.proofs.Prelude.{◌≡◌, ◌⊎◌, ℕ, zero, suc, ◌+◌, ◌-◌, ◌<◌, ◌≤◌, List, [], ◌∷◌, length, get_or, refl, sym, subst, ◌∙◌, inl, inr, arith, AllByRecursion, cases_lt, cases_eq, IsIn, Net, IsNetwork, IsLinked, SameClass, IsReaction, ReactsTo, Reaches, SameStrong, IsTerminal, LeavesClass, AreRightStrongLabels, AreExits, leads_keeps, leads_here, class_then, class_back, class_link, reaches_then, reaches_step, inside_at, reaction_in, place_of, IsReactionNumber, AreLinkageClasses, IsFrom, AreEven, IsFirst, AreLinkTrees, AreFromTrees, AreToTrees, of_class, DoLevelsFall, GoesOut, IsExit, AreAllExits}
use Rattle.crn_cert.specs.ClassTests.{AreNumbered}

-- a reaction that is named is one
pub named_in : (net : Net) (r y z : ℕ) → IsReactionNumber net r y z → IsIn (y, z) net.reactions
named_in net r y z h = reaction_in net.reactions (r - 1) (y, z) h.1.0 h.1.1

-- reaction r goes from y to z
pub goes_at : (net : Net) (r y z : ℕ) → r < length net.reactions → y ≡ (get_or net.reactions r (0, 0)).0 → z ≡ (get_or net.reactions r (0, 0)).1 → IsReaction net.reactions r y z
goes_at net r y z lt p q = (lt, rw (p, q) refl)

-- the numbers of a list from 1 on are positive
pub least_one : (n : ℕ) (xs : List ℕ) → AllByRecursion (IsFrom 1 n) xs → AllByRecursion (λ k. 1 ≤ k) xs
least_one n [] h = tt
least_one n (x ∷ xs) h = (h.0.0, least_one n xs h.1)

pub named_inside : (net : Net) → IsNetwork net → (r y z : ℕ) → IsReactionNumber net r y z → (y < length net.complexes) × (z < length net.complexes)
named_inside net network r y z h = inside_at (length net.complexes) net.reactions network.partial.apart y z (named_in net r y z h)

-- ---- first complexes of classes

-- the root of c: the first complex of its label, joined to c
record Root (labels : List ℕ) (Joined : ℕ → ℕ → Type 0) (c : ℕ) : Type 0 where
  f : ℕ
  first : IsFirst labels f
  same : get_or labels f 0 ≡ get_or labels c 0
  joined : Joined c f

-- two first complexes with one label are one
one_first : (labels : List ℕ) (a b : ℕ) → IsFirst labels a → IsFirst labels b → get_or labels a 0 ≡ get_or labels b 0 → a ≡ b
one_first labels a b p q e = elim (cases_lt a b) [
  | inl lt ↦ absurd (q a lt e)
  | inr ge ↦ elim (cases_lt b a) [ inl lt ↦ absurd (p b lt (sym e)) | inr le ↦ omega arith ]
]

-- the parent of c in its tree
record Parent (net : Net) (labels depth : List ℕ) (Joined : ℕ → ℕ → Type 0) (c : ℕ) : Type 0 where
  d : ℕ
  inside : d < length net.complexes
  same : get_or labels d 0 ≡ get_or labels c 0
  deeper : get_or depth c 0 ≡ suc (get_or depth d 0)
  joined : Joined c d

-- every complex has a root, if each is a first one or has a parent
root_at : (net : Net) (labels depth : List ℕ) (Joined : ℕ → ℕ → Type 0) → ((x : ℕ) → Joined x x) → ((x y z : ℕ) → Joined x y → Joined y z → Joined x z)
    → ((c : ℕ) → c < length net.complexes → IsFirst labels c ⊎ Parent net labels depth Joined c) → (n c : ℕ) → c < length net.complexes → get_or depth c 0 ≤ n → Root labels Joined c
root_at net labels depth J here join tree n c lt le = elim (tree c lt) [
  | inl first ↦ record { f = c; first = first; same = refl; joined = here c }
  | inr p ↦ root_below net labels depth J here join tree n c p le
]
  where
    root_below : (net : Net) (labels depth : List ℕ) (J : ℕ → ℕ → Type 0) → ((x : ℕ) → J x x) → ((x y z : ℕ) → J x y → J y z → J x z)
        → ((c : ℕ) → c < length net.complexes → IsFirst labels c ⊎ Parent net labels depth J c) → (n c : ℕ) → Parent net labels depth J c → get_or depth c 0 ≤ n → Root labels J c
    root_below net labels depth J here join tree zero c p le = absurd (omega (arith, p.deeper, le))
    root_below net labels depth J here join tree (suc n) c p le =
        let below : Root labels J p.d = elim (tree p.d p.inside) [
          | inl first ↦ record { f = p.d; first = first; same = refl; joined = here p.d }
          | inr q ↦ root_below net labels depth J here join tree n p.d q (omega (arith, p.deeper, le))
        ] in
        record { f = below.f; first = below.first; same = below.same ∙ p.same; joined = join c p.d below.f p.joined below.joined }

-- ---- linkage classes

link_parent : (net : Net) → IsNetwork net → (labels up depth : List ℕ) → AreEven net labels → AreLinkTrees net labels up depth → (c : ℕ) → c < length net.complexes → IsFirst labels c ⊎ Parent net labels depth (SameClass net.reactions) c
link_parent net network labels up depth even tree c lt = elim (tree c lt) [
  | inl first ↦ inl first.0
  | inr hangs ↦ let h = hangs.1 in elim h.joins [
    | inl g ↦ let i = named_in net (get_or up c 0) c h.d g in
        inr (record { d = h.d; inside = (named_inside net network (get_or up c 0) c h.d g).1; same = sym (even c h.d i); deeper = h.deeper; joined = class_link net.reactions c h.d (inl i) })
    | inr g ↦ let i = named_in net (get_or up c 0) h.d c g in
        inr (record { d = h.d; inside = (named_inside net network (get_or up c 0) h.d c g).0; same = even h.d c i; deeper = h.deeper; joined = class_link net.reactions c h.d (inr i) })
  ]
]

pub linkage_right : (net : Net) → IsNetwork net → (count : ℕ) (labels up depth : List ℕ) → length labels ≡ length net.complexes → AreNumbered labels count → AreEven net labels → AreLinkTrees net labels up depth → AreLinkageClasses net count labels
linkage_right net network count labels up depth long numbered even tree =
    let rs = net.reactions in
    let root : (c : ℕ) → c < length labels → Root labels (SameClass rs) c = λ c lt.
    root_at net labels depth (SameClass rs) (leads_here (IsLinked rs)) (class_then rs) (link_parent net network labels up depth even tree) (get_or depth c 0) c (omega (arith, long, lt)) (omega arith) in
    record {
      labelled = record {
        long = long;
        right = record {
          same = λ y z ly lz e.
              let a = root y ly in
              let b = root z lz in
              let f : a.f ≡ b.f = one_first labels a.f b.f a.first b.first (a.same ∙ e ∙ sym b.same) in
              class_then rs y a.f z a.joined (subst (λ (x : ℕ). SameClass rs x z) (sym f) (class_back rs z b.f b.joined));
          together = λ y z ly lz walk.
              leads_keeps (IsLinked rs) (λ v. get_or labels y 0 ≡ get_or labels v 0) (λ v w link e. e ∙ elim link [ inl i ↦ even v w i | inr i ↦ sym (even w v i) ]) y z walk refl;
          positive = numbered.positive;
          numbered = numbered.numbered;
        };
      };
      count_is = numbered.count_is;
    }

-- ---- strong classes

-- a complex with a label is inside the list of labels
pub label_inside : (labels : List ℕ) (y : ℕ) → 1 ≤ get_or labels y 0 → y < length labels
label_inside [] y some = absurd (omega (arith, some))
label_inside (l ∷ labels) zero some = omega arith
label_inside (l ∷ labels) (suc y) some = let h = label_inside labels y some in omega (arith, h)

-- each complex has a label
abbrev AreLabelled : Net → List ℕ → Type 0
AreLabelled net labels = (length labels ≡ length net.complexes) × ((y : ℕ) → y < length labels → 1 ≤ get_or labels y 0)

-- so has a complex with the label of another
same_inside : (net : Net) (labels : List ℕ) (d c : ℕ) → AreLabelled net labels → c < length net.complexes → get_or labels d 0 ≡ get_or labels c 0 → d < length net.complexes
same_inside net labels d c labelled lt e =
    let some = labelled.1 c (omega (arith, lt, labelled.0)) in
    let inside = label_inside labels d (omega (arith, some, e)) in
    omega (arith, inside, labelled.0)

from_parent : (net : Net) (labels from depth : List ℕ) → AreLabelled net labels → AreFromTrees net labels from depth → (c : ℕ) → c < length net.complexes → IsFirst labels c ⊎ Parent net labels depth (λ x y. Reaches net.reactions y x) c
from_parent net labels from depth labelled tree c lt = elim (tree c lt) [
  | inl first ↦ inl first.0
  | inr hangs ↦ let h = hangs.1 in
      inr (record { d = h.d; inside = same_inside net labels h.d c labelled lt h.class; same = h.class; deeper = h.deeper; joined = reaches_step net.reactions h.d c (named_in net (get_or from c 0) h.d c h.goes) })
]

to_parent : (net : Net) (labels to depth : List ℕ) → AreLabelled net labels → AreToTrees net labels to depth → (c : ℕ) → c < length net.complexes → IsFirst labels c ⊎ Parent net labels depth (Reaches net.reactions) c
to_parent net labels to depth labelled tree c lt = elim (tree c lt) [
  | inl first ↦ inl first.0
  | inr hangs ↦ let h = hangs.1 in
      inr (record { d = h.d; inside = same_inside net labels h.d c labelled lt h.class; same = h.class; deeper = h.deeper; joined = reaches_step net.reactions c h.d (named_in net (get_or to c 0) c h.d h.goes) })
]

-- along reactions the label stays or the level falls
abbrev Falls : List ℕ → List ℕ → ℕ → ℕ → Type 0
Falls labels level y z = (get_or labels y 0 ≡ get_or labels z 0) ⊎ (of_class labels level z < of_class labels level y)

falls_on : (labels level : List ℕ) (y v w : ℕ) → Falls labels level y v → Falls labels level v w → Falls labels level y w
falls_on labels level y v w (inl e) (inl f) = inl (e ∙ f)
falls_on labels level y v w (inl e) (inr g) = inr (subst (λ (k : ℕ). of_class labels level w < get_or level (k - 1) 0) (sym e) g)
falls_on labels level y v w (inr e) (inl f) = inr (subst (λ (k : ℕ). get_or level (k - 1) 0 < of_class labels level y) f e)
falls_on labels level y v w (inr e) (inr g) = inr (omega (arith, e, g))

-- complexes of one strong class have one label
labels_together : (net : Net) (labels level : List ℕ) → DoLevelsFall net labels level → (y z : ℕ) → SameStrong net.reactions y z → get_or labels y 0 ≡ get_or labels z 0
labels_together net labels level falls y z s = elim (along y z s.0) [
  | inl e ↦ e
  | inr lt ↦ elim (along z y s.1) [ inl e ↦ sym e | inr lt' ↦ absurd (omega (arith, lt, lt')) ]
]
  where
    along : (y z : ℕ) → Reaches net.reactions y z → Falls labels level y z
    along y z h = leads_keeps (ReactsTo net.reactions) (Falls labels level y) (λ v w i p. falls_on labels level y v w p (falls v w i)) y z h (inl refl)

pub strong_labels_right : (net : Net) (count : ℕ) (labels from from_depth to to_depth level : List ℕ) → length labels ≡ length net.complexes → AreNumbered labels count
    → AreFromTrees net labels from from_depth → AreToTrees net labels to to_depth → DoLevelsFall net labels level → AreRightStrongLabels net.reactions labels
strong_labels_right net count labels from from_depth to to_depth level long numbered from_tree to_tree falls =
    let rs = net.reactions in
    let labelled : AreLabelled net labels = (long, numbered.positive) in
    let source : (c : ℕ) → c < length labels → Root labels (λ x y. Reaches rs y x) c = λ c lt.
    root_at net labels from_depth (λ x y. Reaches rs y x) (leads_here (ReactsTo rs)) (λ x y z p q. reaches_then rs z y x q p) (from_parent net labels from from_depth labelled from_tree) (get_or from_depth c 0) c (omega (arith, long, lt)) (omega arith) in
    let sink : (c : ℕ) → c < length labels → Root labels (Reaches rs) c = λ c lt.
    root_at net labels to_depth (Reaches rs) (leads_here (ReactsTo rs)) (reaches_then rs) (to_parent net labels to to_depth labelled to_tree) (get_or to_depth c 0) c (omega (arith, long, lt)) (omega arith) in
    let across : (y z : ℕ) → y < length labels → z < length labels → get_or labels y 0 ≡ get_or labels z 0 → Reaches rs y z = λ y z ly lz e.
    let a = sink y ly in
    let b = source z lz in
    let f : a.f ≡ b.f = one_first labels a.f b.f a.first b.first (a.same ∙ e ∙ sym b.same) in
    reaches_then rs y a.f z a.joined (subst (λ (x : ℕ). Reaches rs x z) (sym f) b.joined) in
    record {
      same = λ y z ly lz e. (across y z ly lz e, across z y lz ly (sym e));
      together = λ y z ly lz s. labels_together net labels level falls y z s;
      positive = numbered.positive;
      numbered = numbered.numbered;
    }

-- ---- exits

pub exits_right : (net : Net) (labels exits level : List ℕ) → length labels ≡ length net.complexes → AreRightStrongLabels net.reactions labels → DoLevelsFall net labels level
    → ((y : ℕ) → y < length labels → get_or labels y 0 ≤ length exits) → AreAllExits net labels exits → AreExits net.reactions labels exits
exits_right net labels exits level long right falls few tests =
    let rs = net.reactions in
    let exit_at : (y : ℕ) → y < length labels → IsExit net labels (get_or labels y 0) (get_or exits (get_or labels y 0 - 1) 0) = λ y ly.
    let some = right.positive y ly in
    let back : suc (get_or labels y 0 - 1) ≡ get_or labels y 0 = omega (arith, some) in
    subst (λ (k : ℕ). IsExit net labels k (get_or exits (get_or labels y 0 - 1) 0)) back (tests (get_or labels y 0 - 1) (omega (arith, some, few y ly))) in
    let same_label : (y w : ℕ) → y < length labels → get_or labels w 0 ≡ get_or labels y 0 → w < length labels = λ y w ly e.
    let some = right.positive y ly in
    label_inside labels w (omega (arith, some, e)) in
    let closed : (y : ℕ) → y < length labels → ((r : ℕ) → GoesOut net labels (get_or labels y 0) r → ⊥) → IsTerminal rs y = λ y ly none z h.
    let stays : (get_or labels z 0 ≡ get_or labels y 0) × (z < length labels) =
    leads_keeps (ReactsTo rs) (λ v. (get_or labels v 0 ≡ get_or labels y 0) × (v < length labels)) (λ v w i p.
    elim (cases_eq (get_or labels w 0) (get_or labels y 0)) [
      | inl e ↦ (e, same_label y w ly e)
      | inr ne ↦ let k = place_of (v, w) rs i in
          absurd (none (k.0 + 1) (record { y = v; z = w; goes = (omega arith, (omega (arith, k.1), subst (λ (j : ℕ). get_or rs j (0, 0) ≡ (v, w)) (omega arith) k.2)); from = p.0; other = ne }))
    ]) y z h (refl, ly) in
    (right.same z y stays.1 ly stays.0).0 in
    let leaving : (y r : ℕ) → y < length labels → GoesOut net labels (get_or labels y 0) r → (LeavesClass rs y (r - 1)) = λ y r ly g.
    record {
      reactant = g.y;
      product = g.z;
      goes = g.goes.1;
      from = right.same y g.y ly (same_label y g.y ly g.from) (sym g.from);
      outside = λ s. g.other (sym (labels_together net labels level falls y g.z s));
    } in
    let never : (y r : ℕ) → y < length labels → GoesOut net labels (get_or labels y 0) r → IsTerminal rs y → ⊥ = λ y r ly g term.
    let l = leaving y r ly g in
    let there : Reaches rs y l.product = reaches_then rs y l.reactant l.product l.from.0 (reaches_step rs l.reactant l.product (reaction_in rs (r - 1) (l.reactant, l.product) l.goes.0 l.goes.1)) in
    l.outside (there, term l.product there) in
    record {
      terminal = λ y ly.
          elim (exit_at y ly) [
            | inl e ↦ (λ zero_exit. closed y ly e.1, λ term. e.0)
            | inr g ↦ (λ zero_exit. absurd (let some = g.goes.0 in omega (arith, some, zero_exit)), λ term. absurd (never y (get_or exits (get_or labels y 0 - 1) 0) ly g term))
          ];
      leaves = λ y r ly e.
          elim (exit_at y ly) [
            | inl z ↦ absurd (omega (arith, z.0, e))
            | inr g ↦ subst (λ (k : ℕ). LeavesClass rs y k) (omega (arith, e)) (leaving y (get_or exits (get_or labels y 0 - 1) 0) ly g)
          ];
    }
