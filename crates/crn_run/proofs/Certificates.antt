-- What is written for a network and valid answers to its questions, whose trees have few nodes, with their share, is a good document.
use Rattle.crn_run.proofs.Prelude.{◌≡◌, ℕ, ℤ, List, [], sym, ap, ap₂, subst, ◌∙◌, MAX_BUDGET, Net, IsNetwork, Answer, built, AreFormed, AreValid, Shared, HaveFewNodes, Record, FitsShare, Share, document2, share_of, IsGood, SharedDocumentsAreGood, SharesFit, records_of, as_share, certificate}

pub certificate_good : SharedDocumentsAreGood → SharesFit → (net : Net) (answers : List Answer) → IsNetwork net → AreFormed net [] built answers → AreValid net [] built answers → HaveFewNodes MAX_BUDGET answers → IsGood (certificate net answers)
certificate_good second fit net answers network formed valid few = (second net answers (share_of (records_of net answers)) network formed valid few (fit net answers network formed)).0

-- with this share the document is the one with the share of its records
pub same_document : (net : Net) (records : List (List Record)) (shared : Shared) (table : List (List ℤ)) (leaf : List ℕ) → table ≡ shared.table → leaf ≡ shared.leaf → share_of records ≡ as_share shared
    → document2 built net records (record { table = table; leaf = leaf }) ≡ document2 built net records (share_of records)
same_document net records shared table leaf p q e =
    ap₂ (λ (t : List (List ℤ)) (l : List ℕ). document2 built net records (record { table = t; leaf = l })) p q ∙ ap (λ (s : Share). document2 built net records s) (sym e)

-- this share fits the records as the share of the records does
pub same_fits : (records : List (List Record)) (shared : Shared) (table : List (List ℤ)) (leaf : List ℕ) → table ≡ shared.table → leaf ≡ shared.leaf → share_of records ≡ as_share shared
    → FitsShare records (share_of records) → FitsShare records (record { table = table; leaf = leaf })
same_fits records shared table leaf p q e fits =
    subst (FitsShare records) (e ∙ sym (ap₂ (λ (t : List (List ℤ)) (l : List ℕ). record { table = t; leaf = l }) p q)) fits
