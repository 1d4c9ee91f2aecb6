-- The answer on the Deficiency One Theorem that terminal strong classes and deficiencies give.
use Rattle.crn_defi.proofs.Prelude.{◌≡◌, ◌≢◌, ℕ, zero, suc, ◌+◌, ◌-◌, ◌<◌, ◌≤◌, List, [], ◌∷◌, length, get_or, refl, sym, ap, subst, ◌∙◌, arith, sum, range_with_len, count_by-le-length, sum_by-cons, length-range_with_len, KeptNums, Net, IsLabelCount, AreDeficiencies, AreAtMostOne, one_labels, one_count, Verdict, Classes, Strong, Deficiency, Yes, NoTerminal, NoClass, NoSum, Unknown, Rests, Answer, tight, Earlier, Q1, Q2, Q6, Q10, on, count_of, deficiencies_of, IsOpen, IsFormed, linkage, exits, terminals_in, HaveOneBefore, HaveOneEach, IsFirstLarge, WithDeficiencies, IsValid, IsTrueOrLicensed, DoLevelsFall, IsTrueOrOpen, valid_answers_are_true, IsAnswer, GiveClasses, is_terminal_in, terminals_of, HaveOneUpTo, IsFirstWithMore, IsVerdictOn, IsFewOrOpen, IsVerdictAfter, labels_few, plain}
use Rattle.crn_defi.proofs.ClassRanks.{class_short}
use Rattle.crn_defi.proofs.TerminalCounts.{Known, terminals_some, one_terminal_each}

-- ---- what earlier verdicts give

terminals_same : (earlier : Earlier) (links : List ℕ) (count : ℕ) (labels exit_list : List ℕ) → GiveClasses earlier links count labels exit_list → (k : ℕ) → terminals_in earlier k ≡ terminals_of labels exit_list links (length exit_list) k
terminals_same earlier links count labels exit_list g k =
    let n = count_of (on earlier Q2) in
    let first : terminals_in earlier k ≡ terminals_of labels (exits earlier) (linkage earlier) n k = ap (λ (ls : List ℕ). terminals_of ls (exits earlier) (linkage earlier) n k) g.strong_are in
    let second : terminals_of labels (exits earlier) (linkage earlier) n k ≡ terminals_of labels exit_list (linkage earlier) n k = ap (λ (es : List ℕ). terminals_of labels es (linkage earlier) n k) g.exits_are in
    let third : terminals_of labels exit_list (linkage earlier) n k ≡ terminals_of labels exit_list links n k = ap (λ (ks : List ℕ). terminals_of labels exit_list ks n k) g.labels_are in
    first ∙ second ∙ third ∙ ap (λ (m : ℕ). terminals_of labels exit_list links m k) g.strong_count

pub one_earlier : (earlier : Earlier) (links : List ℕ) (count : ℕ) (labels exit_list : List ℕ) → GiveClasses earlier links count labels exit_list → HaveOneUpTo labels exit_list links (length exit_list) count → HaveOneEach earlier
one_earlier earlier links count labels exit_list g one j from less = terminals_same earlier links count labels exit_list g j ∙ one j from (omega (arith, less, g.count_is))

-- earlier verdicts of the classes, and one on question 6
abbrev pub earlier_of : ℕ → List ℕ → ℕ → ℕ → List ℕ → List ℕ → Verdict → Earlier
earlier_of count links strong_count terminal labels exit_list q6 =
    (Q1, Classes count (record { list = links; spare = 0 }))
    ∷ (Q2, Strong strong_count terminal (record { list = labels; spare = 0 }) (record { list = exit_list; spare = 0 }))
    ∷ (Q6, q6) ∷ []

pub earlier_gives : (net : Net) (count : ℕ) (links : List ℕ) (strong_count terminal : ℕ) (labels exit_list : List ℕ) (q6 : Verdict) → Known net count links strong_count terminal labels exit_list
    → GiveClasses (earlier_of count links strong_count terminal labels exit_list q6) links count labels exit_list
earlier_gives net count links strong_count terminal labels exit_list q6 known =
    record { labels_are = refl; count_is = refl; strong_are = refl; exits_are = refl; strong_count = sym known.strong_is.classes }

-- a formed and valid answer after those verdicts is true or open
earlier_true : (net : Net) (count : ℕ) (links : List ℕ) (strong_count terminal : ℕ) (labels exit_list : List ℕ) (q6 : Verdict) (answer : Answer) → Known net count links strong_count terminal labels exit_list → IsTrueOrOpen net Q6 q6
    → IsFormed net (earlier_of count links strong_count terminal labels exit_list q6) Q10 answer → IsValid net (earlier_of count links strong_count terminal labels exit_list q6) Q10 answer → IsTrueOrOpen net Q10 answer.verdict
earlier_true net count links strong_count terminal labels exit_list q6 answer known six formed valid =
    valid_answers_are_true Q10 net (earlier_of count links strong_count terminal labels exit_list q6) answer known.network (known.linkage_is, (known.strong_is, tt)) (six, tt) formed valid

-- ---- a linkage class with several terminal strong classes

two_or : (n : ℕ) → 1 ≤ n → n ≢ 1 → 2 ≤ n
two_or zero h ne = absurd (omega (arith, h))
two_or (suc zero) h ne = absurd (ne refl)
two_or (suc (suc n)) h ne = omega arith

split_ready : (net : Net) (earlier : Earlier) (count : ℕ) (links : List ℕ) (strong_count terminal : ℕ) (labels exit_list levels : List ℕ) (k n : ℕ) → Known net count links strong_count terminal labels exit_list → DoLevelsFall net labels levels
    → GiveClasses earlier links count labels exit_list → IsFirstWithMore labels exit_list links (length exit_list) count k n → IsFormed net earlier Q10 (plain (NoTerminal k n)) × IsValid net earlier Q10 (plain (NoTerminal k n))
split_ready net earlier count links strong_count terminal labels exit_list levels k n known falls g h =
    let s = known.strong_is in
    let some : 1 ≤ n = omega (arith, terminals_some net count links strong_count terminal labels exit_list levels known falls k h.from.0 h.from.1, h.is) in
    let several : 2 ≤ n = two_or n some h.other in
    let few : strong_count ≤ length net.complexes = labels_few net labels strong_count known.network s.places s.count_is in
    let most : n ≤ length net.complexes =
    omega (arith, h.is, count_by-le-length (is_terminal_in labels exit_list links k) (range_with_len 1 (length exit_list)), length-range_with_len 1 (length exit_list), s.classes, few) in
    let before : HaveOneBefore earlier k = λ j from less. terminals_same earlier links count labels exit_list g j ∙ h.before j from (omega (arith, less)) in (
      (record { head = ((h.from.0, omega (arith, h.from.1, g.count_is)), ((several, most), tt)); rows = tt; trees = tt }, (refl, refl)),
      ((terminals_same earlier links count labels exit_list g k ∙ h.is, several, before), tt),
    )

pub split_given : (net : Net) (budget : ℕ) (earlier : Earlier) (count : ℕ) (links : List ℕ) (strong_count terminal : ℕ) (labels exit_list levels : List ℕ) (q6 : Verdict) (k n : ℕ) → Known net count links strong_count terminal labels exit_list
    → DoLevelsFall net labels levels → IsTrueOrOpen net Q6 q6 → GiveClasses earlier links count labels exit_list → IsFirstWithMore labels exit_list links (length exit_list) count k n → IsAnswer net budget earlier Q10 (plain (NoTerminal k n))
split_given net budget earlier count links strong_count terminal labels exit_list levels q6 k n known falls six g h =
    let ready = split_ready net earlier count links strong_count terminal labels exit_list levels k n known falls g h in
    let own = earlier_of count links strong_count terminal labels exit_list q6 in
    let again = split_ready net own count links strong_count terminal labels exit_list levels k n known falls (earlier_gives net count links strong_count terminal labels exit_list q6 known) h in
    record { formed = ready.0; valid = ready.1; answered = earlier_true net count links strong_count terminal labels exit_list q6 (plain (NoTerminal k n)) known six again.0 again.1 }

-- ---- deficiencies

-- there is a deficiency for each linkage class
deficiencies_count : (net : Net) (count total : ℕ) (links ds : List ℕ) (strong_count terminal : ℕ) (labels exit_list : List ℕ) → Known net count links strong_count terminal labels exit_list → AreDeficiencies net total ds → length ds ≡ count
deficiencies_count net count total links ds strong_count terminal labels exit_list known h =
    let l = known.linkage_is in
    let same : h.labels ≡ links = one_labels net.reactions h.labels links h.labelled.right l.labelled.right (h.labelled.long ∙ sym l.labelled.long) in
    one_count links (length ds) count (subst (λ (ls : List ℕ). IsLabelCount ls (length ds)) same h.count) l.count_is

deficiency_few : (net : Net) (total : ℕ) (ds : List ℕ) (i : ℕ) → AreDeficiencies net total ds → i < length ds → get_or ds i 0 ≤ length net.complexes
deficiency_few net total ds i h lt =
    let d = h.each i lt in
    omega (arith, d.is, class_short net h.labels (i + 1) h.labelled)

sum_few : (ds : List ℕ) → AreAtMostOne ds → sum ds ≤ length ds
sum_few [] h = omega arith
sum_few (d ∷ ds) h = omega (arith, sum_by-cons (λ (x : ℕ). x) d ds, h.0, sum_few ds h.1)

with_known : (earlier : Earlier) (total : ℕ) (ds : KeptNums) (Has : ℕ → List ℕ → Type 0) → on earlier Q6 ≡ tight (Deficiency total ds) → Has total ds.list → WithDeficiencies Has (deficiencies_of (on earlier Q6))
with_known earlier total ds Has e h = subst (λ (v : Verdict). WithDeficiencies Has (deficiencies_of v)) (sym e) h

after_ready : (net : Net) (earlier : Earlier) (count : ℕ) (links : List ℕ) (strong_count terminal : ℕ) (labels exit_list : List ℕ) (total : ℕ) (ds : KeptNums) (v : Verdict) → Known net count links strong_count terminal labels exit_list
    → HaveOneUpTo labels exit_list links (length exit_list) count → AreDeficiencies net total ds.list → GiveClasses earlier links count labels exit_list → on earlier Q6 ≡ tight (Deficiency total ds) → IsVerdictOn total ds.list v → IsFormed net earlier Q10 (plain v) × IsValid net earlier Q10 (plain v)
after_ready net earlier count links strong_count terminal labels exit_list total ds Yes known one d g e h =
    let has = with_known earlier total ds (λ t cs. AreAtMostOne cs × (sum cs ≡ t)) e h in
    ((record { head = tt; rows = tt; trees = tt }, (refl, refl)), ((one_earlier earlier links count labels exit_list g one, has), tt))
after_ready net earlier count links strong_count terminal labels exit_list total ds (NoClass k x) known one d g e h =
    let has = with_known earlier total ds (λ t cs. IsFirstLarge k x cs) e h.first in
    let long = deficiencies_count net count total links ds.list strong_count terminal labels exit_list known d in
    let most : x ≤ length net.complexes = omega (arith, deficiency_few net total ds.list (k - 1) d (omega (arith, h.from.0, h.from.1)), h.first.0) in
    ((record { head = ((h.from.0, omega (arith, h.from.1, long, g.count_is)), ((h.first.1, most), tt)); rows = tt; trees = tt }, (refl, refl)), ((one_earlier earlier links count labels exit_list g one, has), tt))
after_ready net earlier count links strong_count terminal labels exit_list total ds (NoSum x) known one d g e h =
    let has = with_known earlier total ds (λ t cs. AreAtMostOne cs × (sum cs ≡ x) × (x ≢ t)) e h in
    let long = deficiencies_count net count total links ds.list strong_count terminal labels exit_list known d in
    let l = known.linkage_is in
    let most : x ≤ length net.complexes = omega (arith, sum_few ds.list h.0, h.1, long, labels_few net links count known.network l.labelled.long l.count_is) in
    ((record { head = ((omega arith, most), tt); rows = tt; trees = tt }, (refl, refl)), ((one_earlier earlier links count labels exit_list g one, has), tt))
after_ready net earlier count links strong_count terminal labels exit_list total ds v known one d g e h = absurd h

after_answered : (net : Net) (budget : ℕ) (earlier : Earlier) (total : ℕ) (ds : List ℕ) (v : Verdict) → IsVerdictOn total ds v → IsTrueOrOpen net Q10 v → IsTrueOrLicensed net budget earlier Q10 v
after_answered net budget earlier total ds Yes h t = t
after_answered net budget earlier total ds (NoClass k x) h t = t
after_answered net budget earlier total ds (NoSum x) h t = t
after_answered net budget earlier total ds v h t = absurd h

pub after_given : (net : Net) (budget : ℕ) (earlier : Earlier) (count : ℕ) (links : List ℕ) (strong_count terminal : ℕ) (labels exit_list : List ℕ) (q6 v : Verdict) → Known net count links strong_count terminal labels exit_list
    → HaveOneUpTo labels exit_list links (length exit_list) count → IsTrueOrOpen net Q6 q6 → GiveClasses earlier links count labels exit_list → on earlier Q6 ≡ tight q6 → IsVerdictAfter q6 v → IsAnswer net budget earlier Q10 (plain v)
after_given net budget earlier count links strong_count terminal labels exit_list (Deficiency total ds) v known one six g e h =
    let q6 = tight (Deficiency total ds) in
    let ready = after_ready net earlier count links strong_count terminal labels exit_list total ds v known one six g e h in
    let own = earlier_of count links strong_count terminal labels exit_list q6 in
    let again = after_ready net own count links strong_count terminal labels exit_list total ds v known one six (earlier_gives net count links strong_count terminal labels exit_list q6 known) refl h in
    record {
      formed = ready.0;
      valid = ready.1;
      answered = after_answered net budget earlier total ds.list v h (earlier_true net count links strong_count terminal labels exit_list q6 (plain v) known six again.0 again.1);
    }
after_given net budget earlier count links strong_count terminal labels exit_list (Unknown gap) v known one six g e h =
    let open_six : IsOpen (on earlier Q6) = subst IsOpen (sym e) tt in
    let rests : IsAnswer net budget earlier Q10 (plain (Unknown (Rests 6))) = record {
      formed = (record { head = ((omega arith, omega arith), tt); rows = tt; trees = tt }, (refl, refl));
      valid = tt;
      answered = (refl, open_six, one_terminal_each net count links strong_count terminal labels exit_list known one);
    } in
    subst (λ (w : Verdict). IsAnswer net budget earlier Q10 (plain w)) (sym h) rests
after_given net budget earlier count links strong_count terminal labels exit_list q6 v known one six g e h = absurd six

-- true deficiencies are of few classes
pub few_or_open : (net : Net) (count : ℕ) (links : List ℕ) (strong_count terminal : ℕ) (labels exit_list : List ℕ) (q6 : Verdict) → Known net count links strong_count terminal labels exit_list → IsTrueOrOpen net Q6 q6 → IsFewOrOpen q6
few_or_open net count links strong_count terminal labels exit_list (Deficiency total ds) known six =
    let l = known.linkage_is in
    omega (arith, deficiencies_count net count total links ds.list strong_count terminal labels exit_list known six, labels_few net links count known.network l.labelled.long l.count_is, known.network.partial.complexes_limit)
few_or_open net count links strong_count terminal labels exit_list (Unknown gap) known six = tt
few_or_open net count links strong_count terminal labels exit_list q6 known six = absurd six

-- ---- numbers of a list

pub each_small : (ds : List ℕ) → ((j : ℕ) → j < length ds → get_or ds j 0 ≤ 1) → AreAtMostOne ds
each_small [] h = tt
each_small (d ∷ ds) h = (h 0 (omega arith), each_small ds (λ j lt. h (suc j) (omega (arith, lt))))
