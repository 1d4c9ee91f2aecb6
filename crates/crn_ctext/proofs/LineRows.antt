-- The words of the table of record kinds are those of documents.
use Rattle.crn_ctext.proofs.Prelude.{◌≡◌, ◌⊎◌, ℕ, Bool, true, false, List, subst, sym, inl, inr, tree_words, known_words, words_of, asked_words, IsTable, RecordKind}

pub asked : (v : ℕ) (trees : Bool) (rows : List RecordKind) → (v ≡ 1) ⊎ (v ≡ 2) → IsTable rows → words_of v trees rows ≡ asked_words v trees
asked v false rows (inl e) t = subst (λ k. words_of k false rows ≡ known_words k) (sym e) t.first
asked v false rows (inr e) t = subst (λ k. words_of k false rows ≡ known_words k) (sym e) t.second
asked v true rows (inl e) t = subst (λ k. words_of k true rows ≡ tree_words k) (sym e) t.first_trees
asked v true rows (inr e) t = subst (λ k. words_of k true rows ≡ tree_words k) (sym e) t.second_trees
