-- The tests of the two deficiency theorems are decided, whatever the earlier verdicts say.
use Rattle.crn_ctext.proofs.Prelude.{◌≡◌, ◌≤◌, ◌-◌, ℕ, suc, Bool, true, List, inl, inr, ◌≢◌, IsTrue, Option, Some, None, sum, slice_index, AreAtMostOne, Verdict, Earlier, IsYes, linkage_count, terminals_in, HaveOneBefore, HaveOneEach, IsFirstSplit, WithDeficiencies, IsFirstLarge}
use Rattle.std.specs.Prelude.{◌↔◌}
use Rattle.crn_cert.specs.declared.answer.Verdict.TheVariants.{Yes, YesVec}
use Rattle.crn_ctext.proofs.Decided.{IsDecided, both_decided, not_decided, if_decided, moved, nat_decided, le_decided, bool_decided, all_decided}
use Rattle.crn_ctext.proofs.TestsDecided.{each_below}

pub yes_decided : (v : Verdict) → IsDecided (IsYes v)
yes_decided Yes = inl tt
yes_decided (YesVec vector) = inl tt
yes_decided v = inr (λ h. h)

-- the case of the Deficiency Zero Theorem
pub case_decided : (weak : Bool) (v : Verdict) → IsDecided (IsTrue weak ↔ IsYes v)
case_decided weak v = let a = bool_decided weak true in let b = yes_decided v in both_decided (if_decided a b) (if_decided b a)

one_before_decided : (earlier : Earlier) (k : ℕ) → IsDecided (HaveOneBefore earlier k)
one_before_decided earlier k = moved (λ h j some less. h j less some) (λ h j less some. h j some less)
    (each_below (λ j. 1 ≤ j → terminals_in earlier j ≡ 1) (λ j. if_decided (le_decided 1 j) (nat_decided (terminals_in earlier j) 1)) k)

pub one_each_decided : (earlier : Earlier) → IsDecided (HaveOneEach earlier)
one_each_decided earlier = one_before_decided earlier (suc (linkage_count earlier))

-- three facts
pub three_decided : {P Q R : Type 0} → IsDecided P → IsDecided Q → IsDecided R → IsDecided (P × Q × R)
three_decided a b c = moved (λ h. (h.0, h.1.0, h.1.1)) (λ h. (h.0, (h.1, h.2))) (both_decided a (both_decided b c))

pub first_split_decided : (earlier : Earlier) (k count : ℕ) → IsDecided (IsFirstSplit earlier k count)
first_split_decided earlier k count = three_decided (nat_decided (terminals_in earlier k) count) (le_decided 2 count) (one_before_decided earlier k)

-- a property of the deficiencies, if they are known
pub known_decided : (Has : ℕ → List ℕ → Type 0) → ((total : ℕ) (classes : List ℕ) → IsDecided (Has total classes)) → (known : Option (ℕ × List ℕ)) → IsDecided (WithDeficiencies Has known)
known_decided Has each None = inr (λ h. h)
known_decided Has each (Some ds) = each ds.0 ds.1

at_most_one_decided : (classes : List ℕ) → IsDecided (AreAtMostOne classes)
at_most_one_decided classes = all_decided (λ d. d ≤ 1) (λ d. le_decided d 1) classes

pub additive_decided : (total : ℕ) (classes : List ℕ) → IsDecided (AreAtMostOne classes × (sum classes ≡ total))
additive_decided total classes = both_decided (at_most_one_decided classes) (nat_decided (sum classes) total)

pub other_sum_decided : (x total : ℕ) (classes : List ℕ) → IsDecided (AreAtMostOne classes × (sum classes ≡ x) × (x ≢ total))
other_sum_decided x total classes = three_decided (at_most_one_decided classes) (nat_decided (sum classes) x) (not_decided (nat_decided x total))

pub first_large_decided : (k d : ℕ) (classes : List ℕ) → IsDecided (IsFirstLarge k d classes)
first_large_decided k d classes = three_decided (nat_decided (slice_index classes (k - 1)) d) (le_decided 2 d) (each_below (λ j. slice_index classes j ≤ 1) (λ j. le_decided (slice_index classes j) 1) (k - 1))
