-- The verdict that a block says depends on no node of its trees.
use Rattle.crn_ctext.proofs.Prelude.{◌≡◌, ◌++◌, ◌∙◌, ℕ, zero, suc, List, [], refl, ap, ℤ, append-nil, Sign, Verdict, Question, Q13, Q14, Q15, Record, heads, kind_at, Problem, place_of, AreTrees, Known, lists, sizes_of, verdict_by, verdict_of, problems_by, meaning}

-- trees of these leaves
abbrev pub Trees : (Problem → List Sign → Record → Type 0) → List {1} Problem → List Record → Type 0
Trees Leaf ps nodes = AreTrees Leaf ps nodes

without : (says : List Record → Verdict) (rows nodes : List Record) → nodes ≡ [] → says (rows ++ nodes) ≡ says rows
without says rows nodes none = ap (λ (ns : List Record). says (rows ++ ns)) none ∙ ap says (append-nil rows)

-- the verdict of a head with this place of its form
abbrev said_at : Question → ℕ → List ℤ → List Record → Verdict
said_at q place n rs = verdict_by (kind_at q place) n (lists rs)

abbrev SaysAt : (Problem → List Sign → Record → Type 0) → Question → Type 0
SaysAt Leaf q = (known : Known) (place : ℕ) (n : List ℤ) (rows nodes : List Record) → Trees Leaf (problems_by q known place) nodes → said_at q place n (rows ++ nodes) ≡ said_at q place n rows

signal_says : (Leaf : Problem → List Sign → Record → Type 0) → SaysAt Leaf Q13
signal_says Leaf known zero n rows nodes h = refl
signal_says Leaf known (suc zero) n rows nodes h = without (said_at Q13 (suc zero) n) rows nodes h
signal_says Leaf known (suc (suc zero)) n rows nodes h = refl
signal_says Leaf known (suc (suc (suc k))) n rows nodes h = without (said_at Q13 (suc (suc (suc k))) n) rows nodes h

concordant_says : (Leaf : Problem → List Sign → Record → Type 0) → SaysAt Leaf Q14
concordant_says Leaf known zero n rows nodes h = refl
concordant_says Leaf known (suc zero) n rows nodes h = refl
concordant_says Leaf known (suc (suc k)) n rows nodes h = without (said_at Q14 (suc (suc k)) n) rows nodes h

strongly_says : (Leaf : Problem → List Sign → Record → Type 0) → SaysAt Leaf Q15
strongly_says Leaf known zero n rows nodes h = refl
strongly_says Leaf known (suc zero) n rows nodes h = refl
strongly_says Leaf known (suc (suc k)) n rows nodes h = without (said_at Q15 (suc (suc k)) n) rows nodes h

-- whatever the form of its head
says_at : (Leaf : Problem → List Sign → Record → Type 0) (q : Question) → SaysAt Leaf q
says_at Leaf Q13 = signal_says Leaf
says_at Leaf Q14 = concordant_says Leaf
says_at Leaf Q15 = strongly_says Leaf
says_at Leaf q = λ known place n rows nodes h. without (said_at q place n) rows nodes h

abbrev SaysAlone : (Problem → List Sign → Record → Type 0) → Question → Type 0
SaysAlone Leaf q = (known : Known) (h : Record) (rows nodes : List Record) → Trees Leaf (meaning.problems q known h) nodes → verdict_of q (sizes_of known) h (rows ++ nodes) ≡ verdict_of q (sizes_of known) h rows

pub prefix_says : (Leaf : Problem → List Sign → Record → Type 0) (q : Question) → SaysAlone Leaf q
prefix_says Leaf q = λ known h rows nodes t. says_at Leaf q known (place_of (heads q (sizes_of known)) h.words) h.numbers rows nodes t
