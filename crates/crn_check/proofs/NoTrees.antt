-- A formed answer to a question that trees answer holds no tree, if its verdict is not the one that trees show.
use Rattle.crn_check.proofs.Prelude.{◌≡◌, [], inl, inr, ℕ, refl, subst, AllZip, Net, Answer, Wide, Proof, One, Two, Verdict, Yes, No, Unknown, IsFormed, IsFormedOf, FitsTree, trees_of, Earlier, Q13, Q14, Q15, asked, AsksForTree, HoldsNoTree, shown_by_tree}

no_trees : (p : Proof) → AllZip FitsTree [] (trees_of p) → HoldsNoTree p
no_trees (One tree) f = absurd f
no_trees (Two tree second) f = absurd f
no_trees p f = tt

none_signal : (net : Net) (e : Earlier) (v : Verdict) (p : Proof) → IsFormedOf net e Q13 v p → (v ≡ No → ⊥) → HoldsNoTree p
none_signal net e No p f differs = absurd (differs refl)
none_signal net e (Unknown (Wide system class index basis)) p f differs = no_trees p f.0.trees
none_signal net e v p f differs = no_trees p f.0.trees

none_plain : (net : Net) (e : Earlier) (v : Verdict) (p : Proof) → IsFormedOf net e Q14 v p → (v ≡ Yes → ⊥) → HoldsNoTree p
none_plain net e Yes p f differs = absurd (differs refl)
none_plain net e (Unknown (Wide system class index basis)) p f differs = no_trees p f.0.trees
none_plain net e v p f differs = no_trees p f.0.trees

none_strong : (net : Net) (e : Earlier) (v : Verdict) (p : Proof) → IsFormedOf net e Q15 v p → (v ≡ Yes → ⊥) → HoldsNoTree p
none_strong net e Yes p f differs = absurd (differs refl)
none_strong net e (Unknown (Wide system class index basis)) p f differs = no_trees p f.0.trees
none_strong net e v p f differs = no_trees p f.0.trees

pub answer_treeless : (net : Net) (e : Earlier) (n : ℕ) (a : Answer) → (AsksForTree n → a.verdict ≡ shown_by_tree (asked n) → ⊥) → IsFormed net e (asked n) a → AsksForTree n → HoldsNoTree a.proof
answer_treeless net e n a differs formed (inl is) =
    let here : IsFormedOf net e Q13 a.verdict a.proof = subst (λ (m : ℕ). IsFormedOf net e (asked m) a.verdict a.proof) is formed in
    none_signal net e a.verdict a.proof here (subst (λ (m : ℕ). a.verdict ≡ shown_by_tree (asked m) → ⊥) is (differs (inl is)))
answer_treeless net e n a differs formed (inr (inl is)) =
    let here : IsFormedOf net e Q14 a.verdict a.proof = subst (λ (m : ℕ). IsFormedOf net e (asked m) a.verdict a.proof) is formed in
    none_plain net e a.verdict a.proof here (subst (λ (m : ℕ). a.verdict ≡ shown_by_tree (asked m) → ⊥) is (differs (inr (inl is))))
answer_treeless net e n a differs formed (inr (inr is)) =
    let here : IsFormedOf net e Q15 a.verdict a.proof = subst (λ (m : ℕ). IsFormedOf net e (asked m) a.verdict a.proof) is formed in
    none_strong net e a.verdict a.proof here (subst (λ (m : ℕ). a.verdict ≡ shown_by_tree (asked m) → ⊥) is (differs (inr (inr is))))
