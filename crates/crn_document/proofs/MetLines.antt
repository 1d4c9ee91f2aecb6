-- Lines of a tree that were met before are nodes that are due.
use Rattle.crn_document.proofs.Prelude.{◌≡◌, ◌<◌, ◌++◌, ◌∙◌, true, false, ℕ, Option, zero, suc, List, [], ◌∷◌, length, get_or, refl, sym, ap, subst, arith, Result, ℤ, codes, length-append, get_or-append_seam, Sign, Net, Signed, Place, Said, Splits, CutsA, CutsB, known_words, tree_words, Record, KeptLines, Gives, due, StepGives, CutA, CutB, IsReadAs, forms_of, is_after, misplaced, text_of, Word, Expect, step_then, NodeGives, KeptCut, TreeProblem, Step, TreeFault, MetLine, NodeLine, Read, AreMet, IsCutOf, IsNodeLineAs, IsMet, IsMetAt, IsDueNodeLine, SaysPlainly, plain_node, ExpectsNode, IsSaidAs, JudgeGives, asks_node_for, reads_one, tests_give}
use Rattle.crn_ctext.specs.Expect.{tests_of}
use Rattle.crn_document.specs.declared.node.NodeLine.TheVariants.{Known}
use Rattle.crn_ctext.specs.declared.word.Word.TheVariants as words
use Rattle.crn_document.proofs.NodeRecords.{node_said}
use Rattle.crn_document.proofs.NodeWords.{node_is}

-- ---- a line that is met

-- a line that is one of those that were met is a record, which says its cut
pub record IsFound (e : Expect) (net : Net) (problem : TreeProblem) (lines : List MetLine) (line : List ℕ) (i : ℕ) : Type 0 where
  pub r : Record
  pub gives : (n : ℕ) (at : Place) → Gives (tests_of e n line) at r at
  pub is : IsMetAt net problem lines i r

pub met_at : (e : Expect) (net : Net) (problem : TreeProblem) (lines : List MetLine) (line : List ℕ) (i : ℕ) → AreMet e net problem lines → i < length lines
    → ((m : MetLine) → m ≡ get_or lines i m → m.line.items ≡ line) → IsFound e net problem lines line i
met_at e net problem [] line i all lt same = absurd (omega (arith, lt))
met_at e net problem (m ∷ ms) line zero all lt same = record {
  r = (all.0).said;
  gives = λ n at. subst (λ (l : List ℕ). Gives (tests_of e n l) at (all.0).said at) (same m refl) (let g = (all.0).gives in g n at);
  is = record { inside = lt; cut = λ k f. subst (λ (x : MetLine). IsCutOf net problem x.cut (all.0).said) (sym f) (all.0).cut };
}
met_at e net problem (m ∷ ms) line (suc i) all lt same =
    let h = met_at e net problem ms line i all.1 (omega (arith, lt)) same in record { r = h.r; gives = h.gives; is = record { inside = lt; cut = (h.is).cut } }

-- ---- a line that is kept

pub met_more : (e : Expect) (net : Net) (problem : TreeProblem) (lines new : List MetLine) (m : MetLine) → new ≡ lines ++ m ∷ [] → AreMet e net problem lines → IsMet e net problem m → AreMet e net problem new
met_more e net problem lines new m f all one = subst (λ (ls : List MetLine). AreMet e net problem ls) (sym f) (by lines all)
  where
    by : (ls : List MetLine) → AreMet e net problem ls → AreMet e net problem (ls ++ m ∷ [])
    by [] all = (one, tt)
    by (l ∷ ls) all = (all.0, by ls all.1)

pub met_last : (net : Net) (problem : TreeProblem) (lines new : List MetLine) (m : MetLine) (i : ℕ) (r : Record) → new ≡ lines ++ m ∷ [] → i ≡ length lines → IsCutOf net problem m.cut r → IsMetAt net problem new i r
met_last net problem lines new m i r f e cut = record {
  inside = omega (arith, e, ap length f, length-append lines (m ∷ []));
  cut = λ k g.
      let last : k ≡ m = g ∙ ap (λ (ls : List MetLine). get_or ls i k) f ∙ ap (λ j. get_or (lines ++ m ∷ []) j k) e ∙ get_or-append_seam lines m [] k in
      subst (λ (x : MetLine). IsCutOf net problem x.cut r) (sym last) cut;
}

pub cut_of : (e : Expect) (net : Net) (problem : TreeProblem) (line : List ℕ) (said : Said) (r : Record) (cut : KeptCut) → cut.net ≡ net → cut.problem ≡ problem → cut.said ≡ said → SaysPlainly e line said r → IsCutOf net problem cut r
cut_of e net problem line said r cut n p s h = record { of_net = n; of_problem = p; node = λ table. let g = h.node in g table ∙ ap plain_node (sym s) }

pub is_met : (e : Expect) (net : Net) (problem : TreeProblem) (line : List ℕ) (said : Said) (r : Record) (m : MetLine) → m.line.items ≡ line → (m.cut).net ≡ net → (m.cut).problem ≡ problem → (m.cut).said ≡ said → SaysPlainly e line said r → IsMet e net problem m
is_met e net problem line said r m l n p s h = record {
  said = r;
  gives = λ k at. subst (λ (x : List ℕ). Gives (tests_of e k x) at r at) (sym l) (let g = h.gives in g k at);
  cut = cut_of e net problem line said r m.cut n p s h;
}

-- ---- a line that was read

pub said_as : (e : Expect) (line : List ℕ) (word : Word) (read : List ℤ) (h : IsReadAs e line word read) → IsSaidAs e word read h.said
said_as e line word read h =
    let here : Place = record { line = 0; before = 0; left = [] } in
    let g = h.gives in
    record {
      said = record { form = reads_one (known_words e.version) (tree_words e.version) 0 (is_after e.due e.after_tree) (forms_of e) (misplaced e.due) line here here h.said (g 0 here); numbers = h.numbers };
      kind = h.kind;
    }

pub says_a : (e : Expect) (version a s k : ℕ) (line : List ℕ) (word : Word) (read : List ℤ) → ExpectsNode e version a s k → (h : IsReadAs e line word read) → word ≡ words.CutA → SaysPlainly e line (CutsA read) h.said
says_a e version a s k line word read x h w =
    let node = node_said e version a s k word read h.said x (said_as e line word read h) in
    record { gives = h.gives; node = λ table. node_is table h.said (codes "cuta") (h.kind ∙ ap text_of w) ∙ ap (λ (zs : List ℤ). CutA false zs) (sym node.numbers_are) }

pub says_b : (e : Expect) (version a s k : ℕ) (line : List ℕ) (word : Word) (read : List ℤ) → ExpectsNode e version a s k → (h : IsReadAs e line word read) → word ≡ words.CutB → SaysPlainly e line (CutsB read) h.said
says_b e version a s k line word read x h w =
    let node = node_said e version a s k word read h.said x (said_as e line word read h) in
    record { gives = h.gives; node = λ table. node_is table h.said (codes "cutb") (h.kind ∙ ap text_of w) ∙ ap (λ (zs : List ℤ). CutB false zs) (sym node.numbers_are) }

-- all tests of a line that is due hold
pub line_reads : (e : Expect) (n m : ℕ) (line : List ℕ) (r : Record) (old mid : KeptLines) (left after : Option (List ℕ)) → StepGives (due true) line n m old mid left after
    → ((k : ℕ) (at : Place) → Gives (tests_of e k line) at r at) → StepGives (asks_node_for e n) r n m old mid left after
line_reads e n m line r old mid left after s g =
    step_then (due true) (λ line. tests_of e n line) line r n m m old mid mid left after after s (tests_give (tests_of e n line) r m mid after (λ at. g n at))

-- ---- what is judged

pub plain_gives : (w : Signed) (due after : List (List Sign)) (said : Said) (result : Result Step TreeFault) → NodeGives w due said after result → JudgeGives w due (plain_node said) after result
plain_gives w due after Splits result g = g
plain_gives w due after said result g = g

-- a node that was node_line
pub due_node_line : (e : Expect) (version a s k : ℕ) (net : Net) (problem : TreeProblem) (lines : List MetLine) (node_line : NodeLine) (read : List ℤ) (r : Record) → ExpectsNode e version a s k
    → IsNodeLineAs e net problem lines node_line read r → IsDueNodeLine version a s k net problem lines node_line read r
due_node_line e version a s k net problem lines (Read word) read r x h = node_said e version a s k word read r x h
due_node_line e version a s k net problem lines (Known i) read r x h = h
