-- The strong classes are known after question 2, and so are the linked pairs within terminal classes.
use Rattle.crn_ctext.proofs.Prelude.{◌≡◌, ◌==◌, ◌++◌, ℕ, Bool, true, false, if◌then◌else◌, List, [], ◌∷◌, length, refl, sym, ap, subst, inl, inr, slice_index, AllByRecursion, filter, range_with_len, cases_Bool, Net, Wide, Budget, Verdict, Unknown, Proof, Earlier, Question, Q2, number, on, labels_of, exits_of, HeadMayBe, IsFormedOf, IsTrueOf, IsTrueOrOpen, of_class, ends_at, is_least_of_pair, IsValid, tight, strong_law, is_true_tight, Known, pairs_of}
use Rattle.std.specs.Prelude.{◌||◌, ◌&&◌}
use Rattle.crn_cert.specs.declared.answer.Gap.TheVariants.{Rests}
use Rattle.crn_cert.specs.declared.answer.Verdict.TheVariants.{Strong}

-- the verdict gives strong classes
abbrev pub IsStrong : Verdict → Type 0
IsStrong (Strong count terminal label exit) = Unit {0}
IsStrong v = ⊥

-- none of these verdicts is on question 2
abbrev pub HaveNone : Earlier → Type 0
HaveNone earlier = AllByRecursion (λ (e : Question × Verdict). (number e.0 == 2) ≡ false) earlier

-- the verdict on question 2 gives strong classes, or there is none yet
abbrev pub AreKnown : Bool → Earlier → Type 0
AreKnown true earlier = IsStrong (on earlier Q2)
AreKnown false earlier = HaveNone earlier

abbrev is_second : Question → Bool
is_second Q2 = true
is_second q = false

-- whether there is one after this question
abbrev pub after : Bool → Question → Bool
after b q = b || is_second q

-- the verdict on question 2 gives strong classes
abbrev pub IsRight : Question → Verdict → Type 0
IsRight Q2 v = IsStrong v
IsRight q v = Unit {0}

-- ---- verdicts of formed answers

head_right : (net : Net) (earlier : Earlier) (v : Verdict) → HeadMayBe net earlier Q2 v → IsStrong v
head_right net earlier (Strong count terminal label exit) h = tt
head_right net earlier (Unknown (Wide system class index basis)) h = absurd h
head_right net earlier v h = absurd h

pub formed_right : (net : Net) (earlier : Earlier) (q : Question) (v : Verdict) (p : Proof) → IsFormedOf net earlier q v p → IsRight q v
formed_right net earlier Q2 v p f = head_right net earlier v f.0.head
formed_right net earlier q v p f = tt

pub strong_tight : (v : Verdict) → IsStrong v → IsStrong (tight v)
strong_tight (Strong count terminal label exit) s = tt
strong_tight v s = absurd s

-- so it does without the spares of its lists
pub right_tight : (q : Question) (v : Verdict) → IsRight q v → IsRight q (tight v)
right_tight Q2 v r = strong_tight v r
right_tight q v r = tt

-- ---- one more verdict

-- a verdict on question 2 that gives strong classes is found before later ones
pub on_stays : (es more : Earlier) → IsStrong (on es Q2) → on (es ++ more) Q2 ≡ on es Q2
on_stays [] more s = absurd s
on_stays (e ∷ es) more s = elim (cases_Bool (number e.0 == 2)) [
  | inl here ↦ subst (λ (t : Bool). (if t then e.1 else on (es ++ more) Q2) ≡ (if t then e.1 else on es Q2)) (sym here) refl
  | inr later ↦ subst (λ (t : Bool). (if t then e.1 else on (es ++ more) Q2) ≡ (if t then e.1 else on es Q2)) (sym later) (on_stays es more (subst (λ (t : Bool). IsStrong (if t then e.1 else on es Q2)) later s))
]

pub strong_stays : (es more : Earlier) → IsStrong (on es Q2) → IsStrong (on (es ++ more) Q2)
strong_stays es more s = subst IsStrong (sym (on_stays es more s)) s

on_new : (es : Earlier) (v : Verdict) → HaveNone es → on (es ++ (Q2, v) ∷ []) Q2 ≡ v
on_new [] v none = refl
on_new (e ∷ es) v none = subst (λ (t : Bool). (if t then e.1 else on (es ++ (Q2, v) ∷ []) Q2) ≡ v) (sym none.0) (on_new es v none.1)

none_then : (es : Earlier) (q : Question) (v : Verdict) → HaveNone es → (number q == 2) ≡ false → HaveNone (es ++ (q, v) ∷ [])
none_then [] q v none other = (other, tt)
none_then (e ∷ es) q v none other = (none.0, none_then es q v none.1 other)

pub known_then : (b : Bool) (q : Question) (earlier : Earlier) (v : Verdict) → AreKnown b earlier → IsRight q v → AreKnown (after b q) (earlier ++ (q, v) ∷ [])
known_then true q earlier v k r = strong_stays earlier ((q, v) ∷ []) k
known_then false Q2 earlier v k r = subst IsStrong (sym (on_new earlier v k)) r
known_then false q earlier v k r = none_then earlier q v k refl

-- ---- the truth of the verdict

-- the verdict on question 2 is true of the network, if there is one
abbrev pub IsStrongTrue : Bool → Known → Type 0
IsStrongTrue true known = IsTrueOf known.net Q2 (on known.earlier Q2)
IsStrongTrue false known = Unit {0}

-- a verdict on question 2 is true
abbrev pub IsTrueIfStrong : Question → Net → Verdict → Type 0
IsTrueIfStrong Q2 net v = IsTrueOf net Q2 v
IsTrueIfStrong q net v = Unit {0}

true_strong : (net : Net) (v : Verdict) → IsStrong v → IsTrueOrOpen net Q2 v → IsTrueOf net Q2 v
true_strong net (Strong count terminal label exit) s t = t
true_strong net v s t = absurd s

-- that of a formed and valid answer is
pub valid_is_true : (net : Net) (earlier : Earlier) (q : Question) (v : Verdict) (p : Proof) → IsFormedOf net earlier q v p → IsValid net earlier q (record { verdict = v; proof = p }) → IsTrueIfStrong q net v
valid_is_true net earlier Q2 v p f valid = true_strong net v (formed_right net earlier Q2 v p f) (strong_law net earlier v p f valid)
valid_is_true net earlier q v p f valid = tt

-- and stays true without the spares of its lists
pub true_if_strong_tight : (q : Question) (net : Net) (v : Verdict) → IsTrueIfStrong q net v → IsTrueIfStrong q net (tight v)
true_if_strong_tight Q2 net v t = is_true_tight net Q2 v t
true_if_strong_tight q net v t = tt

-- it stays true after one more verdict
pub true_then : (b : Bool) (q : Question) (known : Known) (v : Verdict) → AreKnown b known.earlier → IsStrongTrue b known → IsTrueIfStrong q known.net v → IsStrongTrue (after b q) (record { net = known.net; earlier = known.earlier ++ (q, v) ∷ [] })
true_then true q known v k s t = subst (IsTrueOf known.net Q2) (sym (on_stays known.earlier ((q, v) ∷ []) k)) s
true_then false Q2 known v k s t = subst (IsTrueOf known.net Q2) (sym (on_new known.earlier v k)) t
true_then false q known v k s t = tt

-- ---- the pairs

-- two complexes are in one strong class without an exit, by lists
abbrev is_within_by : (strong_are exits_are : List ℕ) → ℕ × ℕ → Bool
is_within_by strong_are exits_are r = (slice_index strong_are r.0 == slice_index strong_are r.1) && (of_class strong_are exits_are r.0 == 0)

-- the linked pairs within terminal classes, by lists
abbrev pairs_by_lists : Net → (strong_are exits_are : List ℕ) → List ℕ
pairs_by_lists net strong_are exits_are = filter (λ r. is_within_by strong_are exits_are (ends_at net r) && is_least_of_pair net r) (range_with_len 1 (length net.reactions))

-- they stay the same after later questions
pub pairs_stay : (known : Known) (more : Earlier) → IsStrong (on known.earlier Q2) → pairs_of (record { net = known.net; earlier = known.earlier ++ more }) ≡ pairs_of known
pairs_stay known more s = ap (λ (v : Verdict). pairs_by_lists known.net (labels_of v) (exits_of v)) (on_stays known.earlier more s)
