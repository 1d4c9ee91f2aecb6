-- The answer on the deficiencies is one of the crate of deficiencies, or rests on the rank.
use Rattle.crn_solve.proofs.Prelude.{◌≡◌, ℕ, List, Some, None, refl, sym, ap, subst, ◌∙◌, arith, Net, IsRank, vectors, some_is, Verdict, Rank, Unknown, Earlier, Q5, Q6, IsOpen, on, rank_of, IsFormed, linkage, linkage_count, IsTrueOrLicensed, GiveRank, IsAnswer, tight, rank_tight, open_tight, IsRankOrOpen, plain, Rests}

none : {b : ℕ} {A : Type 0} → None ≡ Some b → A
none e = absurd cc

-- the verdict on the rank is the rank, or open
pub rank_or_open : (net : Net) (budget : ℕ) (earlier : Earlier) (v : Verdict) → IsTrueOrLicensed net budget earlier Q5 v → IsRankOrOpen net v
rank_or_open net budget earlier (Rank rank base) h = record { rank = λ s e. subst (IsRank (vectors net)) (some_is rank s e) h.rank_is; or_open = λ e. none (sym e) }
rank_or_open net budget earlier (Unknown gap) h = record { rank = λ s e. none e; or_open = λ e. tt }
rank_or_open net budget earlier v h = absurd h

-- the earlier verdicts give the linkage classes and the rank
pub gives_rank : (earlier : Earlier) (labels : List ℕ) (count rank : ℕ) (v : Verdict) → rank_of v ≡ Some rank → linkage earlier ≡ labels → linkage_count earlier ≡ count → on earlier Q5 ≡ tight v → GiveRank earlier labels count rank
gives_rank earlier labels count rank v r l c is = record { labels_are = l; count_is = c; rank_is = ap rank_of is ∙ rank_tight v ∙ r }

-- an open rank leaves the deficiencies open
pub rests_given : (net : Net) (budget : ℕ) (earlier : Earlier) (v : Verdict) → IsOpen v → on earlier Q5 ≡ tight v → IsAnswer net budget earlier Q6 (plain (Unknown (Rests 5)))
rests_given net budget earlier v o is =
    let formed : IsFormed net earlier Q6 (plain (Unknown (Rests 5))) = (record { head = ((omega arith, omega arith), tt); rows = tt; trees = tt }, (refl, refl)) in
    record { formed = formed; valid = tt; answered = (refl, subst IsOpen (sym is) (subst (λ (A : Type 0). A) (sym (open_tight v)) o), tt) }
