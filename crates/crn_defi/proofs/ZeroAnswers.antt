-- The answer on the Deficiency Zero Theorem that the deficiency gives.
use Rattle.crn_defi.proofs.Prelude.{◌≡◌, ◌≢◌, ℕ, zero, suc, ◌+◌, ◌≤◌, Bool, true, false, length, refl, sym, subst, arith, ◌↔◌, IsTrue, Net, IsWeaklyReversible, IsRank, vectors, IsDeficiency, YesWeak, NoNumber, Nothing, Earlier, Q4, Q5, Q9, on, rank_of, IsYes, AreLinkageClasses, IsLeft, IsAnswer, IsFormedOf, GiveRank, plain}
use Rattle.std.specs.Prelude.{List}
use Rattle.crn_defi.proofs.Counted.{number_of_classes}
use Rattle.crn_defi.proofs.DeficiencyAnswers.{left_is, rank_known}

-- what is left of the complexes is the deficiency
deficiency_is : (net : Net) (count total rank : ℕ) (labels : List ℕ) → AreLinkageClasses net count labels → IsRank (vectors net) rank → total + count + rank ≡ length net.complexes → IsDeficiency net total
deficiency_is net count total rank labels h r left = record { classes = count; rank = rank; classes_are = number_of_classes net count labels h; rank_is = r; is = left }

left_earlier : (net : Net) (earlier : Earlier) (count total rank : ℕ) (labels : List ℕ) → GiveRank earlier labels count rank → total + count + rank ≡ length net.complexes → IsLeft net earlier total (rank_of (on earlier Q5))
left_earlier net earlier count total rank labels g left = left_is net earlier total rank g.rank_is (subst (λ (m : ℕ). total + m + rank ≡ length net.complexes) (sym g.count_is) left)

weak_formed : (net : Net) (earlier : Earlier) (weak : Bool) → IsFormedOf net earlier Q9 (YesWeak weak) Nothing
weak_formed net earlier true = (record { head = ((omega arith, omega arith), tt); rows = tt; trees = tt }, (refl, refl))
weak_formed net earlier false = (record { head = ((omega arith, omega arith), tt); rows = tt; trees = tt }, (refl, refl))

pub zero_holds : (net : Net) (budget : ℕ) (earlier : Earlier) (count total rank : ℕ) (labels : List ℕ) (weak : Bool) → GiveRank earlier labels count rank → IsRank (vectors net) rank → AreLinkageClasses net count labels
    → (IsTrue weak ↔ IsWeaklyReversible net.reactions) → (IsTrue weak ↔ IsYes (on earlier Q4)) → total + count + rank ≡ length net.complexes → total ≡ 0 → IsAnswer net budget earlier Q9 (plain (YesWeak weak))
zero_holds net budget earlier count total rank labels weak g r h is known left none =
    let whole : 0 + count + rank ≡ length net.complexes = omega (arith, left, none) in
    record {
      formed = weak_formed net earlier weak;
      valid = (rank_known earlier rank g.rank_is, ((left_earlier net earlier count 0 rank labels g whole, known), tt));
      answered = (deficiency_is net count 0 rank labels h r whole, is);
    }

pub zero_fails : (net : Net) (budget : ℕ) (earlier : Earlier) (count total rank : ℕ) (labels : List ℕ) → GiveRank earlier labels count rank → IsRank (vectors net) rank → AreLinkageClasses net count labels
    → total + count + rank ≡ length net.complexes → total ≢ 0 → IsAnswer net budget earlier Q9 (plain (NoNumber total))
zero_fails net budget earlier count total rank labels g r h left some =
    let from : 1 ≤ total = positive total some in
    let most : total ≤ length net.complexes = omega (arith, left) in
    record {
      formed = (record { head = ((from, most), tt); rows = tt; trees = tt }, (refl, refl));
      valid = (rank_known earlier rank g.rank_is, (left_earlier net earlier count total rank labels g left, tt));
      answered = (deficiency_is net count total rank labels h r left, some);
    }
  where
    positive : (n : ℕ) → n ≢ 0 → 1 ≤ n
    positive zero ne = absurd (ne refl)
    positive (suc n) ne = omega arith
