-- The tests of a decomposition as a course: what they give, which fails first, and that nothing is written for them.
use Rattle.crn_indep_text.proofs.Prelude.{◌≡◌, ◌+◌, ◌++◌, ◌⊎◌, ℕ, List, [], ◌∷◌, refl, sym, ap, subst, ◌∙◌, inl, inr, Net, Place, RankProof, fault_number, Test, AllHold, FailsTest, Course, Give, ◌>>=◌, test_own, Gives, FailsFirst, IsWrittenBy, HasNoEnd, written_then, written_cuts, test_no_end, give_no_end, AreEvenLabels, AreLinked, IsShown, FailsShown, FailsLink, proof_tests, part_code, label_record, own_tests, asks_shown}

-- ---- tests in order, and what follows them

own_give : {B : Type 0} (n : ℕ) (ts : List {1} Test) (f : Unit {0} → Course B) (at after : Place) (y : B) → AllHold ts → Gives (f tt) at y after → Gives (own_tests n ts >>= f) at y after
unfolding Gives own_tests
own_give n [] f at after y h g = g
own_give n (t ∷ ts) f at after y h g = (tt, h.0, own_give n ts f at after y h.1 g)

own_later : {B : Type 0} (n line code : ℕ) (ts : List {1} Test) (f : Unit {0} → Course B) (at : Place) → AllHold ts → FailsFirst (f tt) at line code → FailsFirst (own_tests n ts >>= f) at line code
unfolding FailsFirst own_tests
own_later n line code [] f at h g = g
own_later n line code (t ∷ ts) f at h g = inr (tt, h.0, own_later n line code ts f at h.1 g)

own_fail : {B : Type 0} (n part kind : ℕ) (ts : List {1} Test) (f : Unit {0} → Course B) (at : Place) → FailsTest ts part kind → FailsFirst (own_tests n ts >>= f) at (n + part) (part_code kind)
unfolding FailsFirst own_tests
own_fail n part kind [] f at h = absurd h
own_fail n part kind (t ∷ ts) f at (inl h) = inl (ap (λ (k : ℕ). n + k) (sym h.1), ap part_code (sym h.2), λ x p. h.0 p)
own_fail n part kind (t ∷ ts) f at (inr h) = inr (tt, h.0, own_fail n part kind ts f at h.1)

own_written : {B : Type 0} (n : ℕ) (ts : List {1} Test) (f : Unit {0} → Course B) (ls : List (List ℕ)) (y : B) → IsWrittenBy (own_tests n ts >>= f) ls y → AllHold ts × IsWrittenBy (f tt) ls y
unfolding IsWrittenBy own_tests
own_written n [] f ls y w = (tt, w)
own_written n (t ∷ ts) f ls y w = let m = own_written n ts f ls y w.2 in ((w.1, m.0), m.1)

own_on : {B : Type 0} (n : ℕ) (ts : List {1} Test) (f : Unit {0} → Course B) (ls : List (List ℕ)) (y : B) → AllHold ts → IsWrittenBy (f tt) ls y → IsWrittenBy (own_tests n ts >>= f) ls y
unfolding IsWrittenBy own_tests
own_on n [] f ls y h w = w
own_on n (t ∷ ts) f ls y h w = (tt, h.0, own_on n ts f ls y h.1 w)

own_no_end : {B : Type 0} (n : ℕ) (ts : List {1} Test) (f : Unit {0} → Course B) → HasNoEnd (f tt) → HasNoEnd (own_tests n ts >>= f)
unfolding own_tests
own_no_end n [] f h = h
own_no_end n (t ∷ ts) f h = test_no_end (n + t.part) (part_code (fault_number t.fault)) t.holds (λ x. own_tests n ts >>= f) (own_no_end n ts f h)

-- ---- the tests of a decomposition

-- those of the labels and of the links
abbrev link_course : Net → ℕ → RankProof → List ℕ → List ℕ → List ℕ → Course (Unit {0})
link_course net n proof label up depth = test_own (n + label_record proof) 63 (AreEvenLabels net proof label) >>= (λ x. test_own (n + (label_record proof + 2)) 64 (AreLinked net proof label up depth))

link_gives : (net : Net) (n : ℕ) (proof : RankProof) (label up depth : List ℕ) (at : Place) → IsShown net proof label up depth → Gives (link_course net n proof label up depth) at tt at
unfolding Gives
link_gives net n proof label up depth at s = (tt, s.even, (tt, s.linked, (refl, refl)))

pub shown_gives : (net : Net) (n : ℕ) (proof : RankProof) (label up depth : List ℕ) → IsShown net proof label up depth → (at : Place) → Gives (asks_shown net n proof label up depth) at tt at
shown_gives net n proof label up depth s at = own_give n (proof_tests net proof) (λ x. link_course net n proof label up depth) at at tt s.ranks (link_gives net n proof label up depth at s)

link_fails : (net : Net) (n : ℕ) (proof : RankProof) (label up depth : List ℕ) (part code : ℕ) (at : Place) → FailsLink net proof label up depth part code → FailsFirst (link_course net n proof label up depth) at (n + part) code
unfolding FailsFirst
link_fails net n proof label up depth part code at f = by f.link
  where
    by : ((AreEvenLabels net proof label → ⊥) × (part ≡ label_record proof) × (code ≡ 63))
        ⊎ (AreEvenLabels net proof label × ((AreLinked net proof label up depth → ⊥) × (part ≡ label_record proof + 2) × (code ≡ 64)))
        → FailsFirst (link_course net n proof label up depth) at (n + part) code
    by (inl h) = inl (ap (λ (k : ℕ). n + k) h.1, h.2, λ x p. h.0 p)
    by (inr h) = inr (tt, h.0, inl (ap (λ (k : ℕ). n + k) h.1.1, h.1.2, λ x p. h.1.0 p))

pub shown_fails : (net : Net) (n : ℕ) (proof : RankProof) (label up depth : List ℕ) (part code : ℕ) → FailsShown net proof label up depth part code → (at : Place) → FailsFirst (asks_shown net n proof label up depth) at (n + part) code
shown_fails net n proof label up depth part code (inl f) at =
    subst (λ (k : ℕ). FailsFirst (asks_shown net n proof label up depth) at (n + part) k) (sym f.1) (own_fail n part f.0 (proof_tests net proof) (λ x. link_course net n proof label up depth) at f.2)
shown_fails net n proof label up depth part code (inr f) at = own_later n (n + part) code (proof_tests net proof) (λ x. link_course net n proof label up depth) at f.ranks (link_fails net n proof label up depth part code at f)

link_written : (net : Net) (n : ℕ) (proof : RankProof) (label up depth : List ℕ) (ls : List (List ℕ)) (y : Unit {0}) → IsWrittenBy (link_course net n proof label up depth) ls y → AreEvenLabels net proof label × AreLinked net proof label up depth × (ls ≡ [])
unfolding IsWrittenBy
link_written net n proof label up depth ls y w = (w.1, w.2.1, w.2.2.1)

-- nothing is written for them, and they hold
pub shown_back : {B : Type 0} (net : Net) (n : ℕ) (proof : RankProof) (label up depth : List ℕ) (f : Unit {0} → Course B) (ls : List (List ℕ)) (y : B) → IsWrittenBy (asks_shown net n proof label up depth >>= f) ls y
    → IsShown net proof label up depth × IsWrittenBy (f tt) ls y
shown_back {B} net n proof label up depth f ls y w =
    let a = written_cuts (asks_shown net n proof label up depth) f ls y w in
    let o = own_written n (proof_tests net proof) (λ x. link_course net n proof label up depth) a.1 a.0 a.4 in
    let l = link_written net n proof label up depth a.1 a.0 o.1 in
    let same : ls ≡ a.2 = a.3 ∙ ap (λ (t : List (List ℕ)). t ++ a.2) l.2 in
    (record { ranks = o.0; even = l.0; linked = l.1 }, subst (λ (t : List (List ℕ)). IsWrittenBy (f tt) t y) (sym same) a.5)

link_on : (net : Net) (n : ℕ) (proof : RankProof) (label up depth : List ℕ) → IsShown net proof label up depth → IsWrittenBy (link_course net n proof label up depth) [] tt
unfolding IsWrittenBy
link_on net n proof label up depth s = (tt, s.even, (tt, s.linked, (refl, refl)))

pub shown_no_end : (net : Net) (n : ℕ) (proof : RankProof) (label up depth : List ℕ) → HasNoEnd (asks_shown net n proof label up depth)
shown_no_end net n proof label up depth = own_no_end n (proof_tests net proof) (λ x. link_course net n proof label up depth)
    (test_no_end (n + label_record proof) 63 (AreEvenLabels net proof label) (λ x. test_own (n + (label_record proof + 2)) 64 (AreLinked net proof label up depth))
    (test_no_end (n + (label_record proof + 2)) 64 (AreLinked net proof label up depth) (λ x. Give x) (give_no_end tt)))

pub shown_on : {B : Type 0} (net : Net) (n : ℕ) (proof : RankProof) (label up depth : List ℕ) (f : Unit {0} → Course B) (ms : List (List ℕ)) (y : B) → IsShown net proof label up depth → IsWrittenBy (f tt) ms y
    → IsWrittenBy (asks_shown net n proof label up depth >>= f) ms y
shown_on net n proof label up depth f ms y s w = written_then (asks_shown net n proof label up depth) f [] ms tt y (shown_no_end net n proof label up depth)
    (own_on n (proof_tests net proof) (λ x. link_course net n proof label up depth) [] tt s.ranks (link_on net n proof label up depth s)) w
