-- The ghost side of a row's memory: a chunk that is laid back, and whoever lays the last one back. Assumes `Logic`.
use Rattle.std.proofs.Common.{◌≡◌, ℕ, zero, suc, ◌+◌, ◌-◌, ◌*◌, ◌%◌, ◌^◌, ◌<◌, Bool, true, false, List, [], ◌∷◌, length, refl, sym, ap, ◌∙◌, subst, arith, suc-mul, zero-mul}
use seplogic.Ra.Ura.{Ura}
use prog.RawLaws.{size-raw}
use base.Logic.{SProp, ent, sep, ex, guard, upd, emp, upd_i}
use base.Fml.{Fml, ftrue, fsep, fex, froom, finv}
use base.Stored.{gnum}
use types.Logic.{Logic, sem}
use types.Na.{out, out_once}
use types.Tokens.{name_new}
use types.Kit.{‵, raw, ◌⊛◌, some, given, later, ◌$◌, ◌∵◌, !, qed, by, move, keep, drop, split, fsplit, fsplit3, fjoin, fpick, fpack, pick, learn, show, check, frame, each, assume, suffices, settle, done, use0, use1, use2, updating, await, now, rewrite}
use denote.RattleType.{RattleType}
use denote.RawPtr.{block_ptr}
use denote.Steps.{nothing}
use Rattle.core.specs.Sync.RawAtomic.{word, always, asks}
use Rattle.seize_store.specs.Body.{body_ty, plain_ty, row_ty, stride}
use Rattle.seize_store.specs.Row.{RowDeed, Has, TicketMarks, of_marks, one_missing, missing, held_all, RowStage, stands, gone, laid, head, head_with, stage, Shared, Lies, ticket, Tail, uncut}
use Rattle.seize_store.proofs.Steps as steps

module _ (X U R : RattleType) {M : Type 1} {𝓤 : Ura M} (𝓛 : Logic 𝓤) (b : ℕ) where
  open 𝓛 use {H, A}

  abbrev Pr : Type 2
  Pr = SProp 𝓤

  abbrev ◌⊢◌ : Pr → Pr → Type 1
  P ⊢ Q = ent 𝓤 P Q

  abbrev ◌∗◌ : Pr → Pr → Pr
  P ∗ Q = sep 𝓤 P Q

  abbrev ⟦◌⟧ : Fml → Pr
  ⟦ P ⟧ = sem 𝓛 P

  infix 26 ◌⊢◌
  infixr 35 ◌∗◌
  abbrev s : ℕ
  s = stride X U R

  abbrev pub body : ℕ → Fml
  body e = froom (body_ty X U R) b e

  abbrev back : ℕ → ℕ → Fml
  back γ e = fsep (out γ) (body e)

  -- no ticket stands twice
  held_once : (γs : List ℕ) (i γ : ℕ) (Z : Pr) → Has γs i γ → ⟦ held_all γs ⟧ ∗ ⟦ out γ ⟧ ⊢ upd 𝓤 Z
  held_once [] i γ Z has = absurd has
  held_once (δ ∷ δs) zero γ Z has = qed 𝓛 (‵ (fsep (out δ) (held_all δs)) ∷ ‵ (out γ) ∷ []) ∵ fsplit ! $ keep ! (0 ∷ 2 ∷ []) $ rewrite ! 0 (λ (n : ℕ). ‵ (out n)) has refl $ by ! (out_once 𝓛 γ Z)
  held_once (δ ∷ δs) (suc i) γ Z has = qed 𝓛 (‵ (fsep (out δ) (held_all δs)) ∷ ‵ (out γ) ∷ []) ∵ fsplit ! $ keep ! (1 ∷ 2 ∷ []) $ by ! (held_once δs i γ Z has)

  -- a chunk is laid back
  abbrev Laid : TicketMarks → ℕ → TicketMarks → Pr
  Laid ms e ns = guard 𝓤 ((of_marks ns ≡ of_marks ms) × (missing ms ≡ suc (missing ns))) ⟦ laid X U R b ns e ⟧

  one_less : (y : Bool) (m n : ℕ) → m ≡ suc n → one_missing y m ≡ suc (one_missing y n)
  one_less true m n e = e
  one_less false m n e = ap suc e

  lay_first : (δ : ℕ) (y : Bool) (ms : TicketMarks) (γ e e' : ℕ) → e' ≡ e → δ ≡ γ → ⟦ laid X U R b ((δ, y) ∷ ms) e ⟧ ∗ ⟦ back γ e' ⟧ ⊢ upd 𝓤 (ex 𝓤 (Laid ((δ, y) ∷ ms) e))
  lay_first δ true ms γ e e' is has = let Z : Pr = ex 𝓤 (Laid ((δ, true) ∷ ms) e) in
      qed 𝓛 (‵ (laid X U R b ((δ, true) ∷ ms) e) ∷ ‵ (back γ e') ∷ []) ∵ fsplit ! $ fsplit ! $ move ! (3 ∷ []) $ fsplit ! $ move ! (2 ∷ []) $ keep ! (0 ∷ 1 ∷ []) $ rewrite ! 0 (λ (n : ℕ). ‵ (out n)) has refl $ by ! (out_once 𝓛 γ Z)
  lay_first δ false ms γ e e' is has = let Z : Pr = ex 𝓤 (Laid ((δ, false) ∷ ms) e) in
      qed 𝓛 (‵ (laid X U R b ((δ, false) ∷ ms) e) ∷ ‵ (back γ e') ∷ []) ∵ suffices ! _ (upd_i 𝓤 Z) $ fsplit ! $ drop ! $ move ! (1 ∷ []) $ rewrite ! 0 (λ (u : ℕ × ℕ). ‵ (back u.0 u.1)) (λ i. (sym has i, is i)) refl $
      show ! (Laid ((δ, false) ∷ ms) e) ((δ, true) ∷ ms) $ check ! (refl, refl) $ fjoin ! $ done !

  lay : (ms : TicketMarks) (i γ e e' : ℕ) → e' ≡ i * s + e → Has (of_marks ms) i γ → ⟦ laid X U R b ms e ⟧ ∗ ⟦ back γ e' ⟧ ⊢ upd 𝓤 (ex 𝓤 (Laid ms e))
  lay [] i γ e e' is has = absurd has
  lay (m ∷ ms) zero γ e e' is has = let z = zero-mul s in lay_first m.0 m.1 ms γ e e' (omega arith) has
  lay (m ∷ ms) (suc i) γ e e' is has = let z = suc-mul i s in let Z : Pr = ex 𝓤 (Laid (m ∷ ms) e) in
      qed 𝓛 (‵ (laid X U R b (m ∷ ms) e) ∷ ‵ (back γ e') ∷ []) ∵ fsplit ! $ move ! (1 ∷ 2 ∷ []) $ use2 𝓛 (raw (upd 𝓤 (ex 𝓤 (Laid ms (e + s))))) (lay ms i γ (e + s) e' (omega arith) has) $
      settle 𝓛 Z (some (λ (ns : TicketMarks). given ((of_marks ns ≡ of_marks ms) × (missing ms ≡ suc (missing ns))) (‵ (laid X U R b ns (e + s))))) $ suffices ! _ (upd_i 𝓤 Z) $ pick ! (λ ns. learn ! (λ so.
      show ! (Laid (m ∷ ms) e) (m ∷ ns) $ check ! (ap (λ (γs : List ℕ). m.0 ∷ γs) so.0, one_less m.1 (missing ms) (missing ns) so.1) $ move ! (1 ∷ 0 ∷ []) $ fjoin ! $ done !))

  -- when none is missing, the memory is whole
  abbrev row_room : ℕ → ℕ → Fml
  row_room n e = froom (row_ty X U R n) b e

  pub joins : (n e : ℕ) → ⟦ body e ⟧ ∗ ⟦ row_room n (e + s) ⟧ ⊢ ⟦ row_room (suc n) e ⟧
  joins n e = subst (λ (k : ℕ). ⟦ body e ⟧ ∗ ⟦ row_room n (e + k) ⟧ ⊢ ⟦ row_room (suc n) e ⟧) (size-raw (plain_ty X U R)) (𝓛.laws.room_cons (body_ty X U R) n b e)

  pub cuts : (n e : ℕ) → ⟦ row_room (suc n) e ⟧ ⊢ ⟦ body e ⟧ ∗ ⟦ row_room n (e + s) ⟧
  cuts n e = subst (λ (k : ℕ). ⟦ row_room (suc n) e ⟧ ⊢ ⟦ body e ⟧ ∗ ⟦ row_room n (e + k) ⟧) (size-raw (plain_ty X U R)) (𝓛.laws.room_uncons (body_ty X U R) n b e)

  abbrev Whole : TicketMarks → ℕ → Type 1
  Whole ms e = ⟦ laid X U R b ms e ⟧ ⊢ ⟦ held_all (of_marks ms) ⟧ ∗ ⟦ row_room (length (of_marks ms)) e ⟧

  whole_one : (γ : ℕ) (y : Bool) (ms : TicketMarks) (e : ℕ) → one_missing y (missing ms) ≡ 0 → (missing ms ≡ 0 → Whole ms (e + s)) → Whole ((γ, y) ∷ ms) e
  whole_one γ true ms e none more = let n : ℕ = length (of_marks ms) in qed 𝓛 (‵ (laid X U R b ((γ, true) ∷ ms) e) ∷ []) ∵ fsplit ! $ fsplit ! $ move ! (2 ∷ []) $
      use1 𝓛 (‵ (held_all (of_marks ms)) ⊛ ‵ (row_room n (e + s))) (more none) $ split ! $ move ! (2 ∷ 0 ∷ []) $ fjoin ! $ frame ! $ move ! (1 ∷ 0 ∷ []) $ by ! (joins n e)
  whole_one γ false ms e none more = absurd (omega arith)

  whole : (ms : TicketMarks) (e : ℕ) → missing ms ≡ 0 → Whole ms e
  whole [] e none = qed 𝓛 (‵ ftrue ∷ []) ∵ frame ! $ by ! (𝓛.laws.room_nil (body_ty X U R) b e)
  whole (m ∷ ms) e none = whole_one m.0 m.1 ms e none (λ z. whole ms (e + s) z)

  module _ (d : RowDeed) where
    abbrev c : ℕ
    c = d.at + 0

    abbrev n : ℕ
    n = length d.tickets

    abbrev I : Fml
    I = Shared X U R b d

    abbrev st : RowStage → Fml
    st = stage X U R b d

    abbrev pub less : ℕ → ℕ
    less k = (k + (2 ^ 64 - 1)) % 2 ^ 64

    -- whoever lays the last one back
    abbrev pub all_of_it : Fml
    all_of_it = fsep (word b c 0) (fsep (head X U R b d) (row_room n (d.at + s)))

    abbrev pub after_end : ℕ → Fml
    after_end zero = ftrue
    after_end (suc zero) = all_of_it
    after_end (suc (suc k)) = ftrue

    abbrev Then : ℕ → Pr
    Then = steps.Lies 𝓛 I b c less always after_end

    less_is : (k : ℕ) → suc k < 2 ^ 64 → less (suc k) ≡ k
    less_is k small = omega arith

    ends_at : (k : ℕ) (ns : TicketMarks) → missing ns ≡ k → of_marks ns ≡ d.tickets → suc k < 2 ^ 64
        → ⟦ word b c (suc k) ⟧ ∗ ⟦ laid X U R b ns (d.at + s) ⟧ ∗ ⟦ head X U R b d ⟧ ⊢ upd 𝓤 (ex 𝓤 Then)
    ends_at zero ns none same small = qed 𝓛 (‵ (word b c 1) ∷ ‵ (laid X U R b ns (d.at + s)) ∷ ‵ (head X U R b d) ∷ []) ∵ suffices ! _ (upd_i 𝓤 (ex 𝓤 Then)) $ show ! Then 1 $ frame ! $
        each ! (λ (_ : Unit {0}). steps.Again 𝓛 I b c less always after_end 1) (λ _. assume ! (‵ (word b c (less 1))) $ let Z : Pr = ⟦ I ⟧ ∗ ⟦ after_end 1 ⟧ in suffices ! _ (upd_i 𝓤 Z) $ rewrite ! 0 (λ (k : ℕ). ‵ (word b c k)) (less_is 0 small) refl $
        move ! (1 ∷ []) $ use1 𝓛 (‵ (held_all (of_marks ns)) ⊛ ‵ (row_room (length (of_marks ns)) (d.at + s))) (whole ns (d.at + s) none) $ split ! $
        rewrite ! 0 (λ (γs : List ℕ). ‵ (held_all γs)) same refl $ rewrite ! 1 (λ (γs : List ℕ). ‵ (row_room (length γs) (d.at + s))) same refl $
        fpack ! RowStage st gone $ frame ! $ move ! (2 ∷ 0 ∷ []) $ fjoin ! $ move ! (1 ∷ 0 ∷ []) $ fjoin ! $ done !)
    ends_at (suc k) ns more same small = qed 𝓛 (‵ (word b c (suc (suc k))) ∷ ‵ (laid X U R b ns (d.at + s)) ∷ ‵ (head X U R b d) ∷ []) ∵ suffices ! _ (upd_i 𝓤 (ex 𝓤 Then)) $ show ! Then (suc (suc k)) $ frame ! $
        each ! (λ (_ : Unit {0}). steps.Again 𝓛 I b c less always after_end (suc (suc k))) (λ _. assume ! (‵ (word b c (less (suc (suc k))))) $ let Z : Pr = ⟦ I ⟧ ∗ ⟦ after_end (suc (suc k)) ⟧ in suffices ! _ (upd_i 𝓤 Z) $
        rewrite ! 0 (λ (j : ℕ). ‵ (word b c j)) (less_is (suc k) small ∙ sym more) refl $ move ! (1 ∷ 2 ∷ []) $ fjoin ! $ move ! (1 ∷ 0 ∷ []) $ fjoin ! $
        nothing ! $ fpack ! ((of_marks ns ≡ d.tickets) × (missing ns < 2 ^ 64)) (λ _. ftrue) (same, subst (λ (j : ℕ). j < 2 ^ 64) (sym more) (omega arith)) $ fjoin ! $ fpack ! RowStage st (stands ns) $ frame ! $ nothing ! $ done !)

    end_from : (t : RowStage) (e i γ : ℕ) → Lies X U R b d e i γ → ⟦ st t ⟧ ∗ ⟦ back γ e ⟧ ⊢ upd 𝓤 (ex 𝓤 Then)
    end_from gone e i γ lies = qed 𝓛 (‵ (st gone) ∷ ‵ (back γ e) ∷ []) ∵ move ! (1 ∷ []) $ fsplit ! $ keep ! (2 ∷ 0 ∷ []) $ by ! (held_once d.tickets i γ (ex 𝓤 Then) lies.0)
    end_from (stands ms) e i γ lies = let Z : Pr = ex 𝓤 Then in qed 𝓛 (‵ (st (stands ms)) ∷ ‵ (back γ e) ∷ []) ∵ fsplit ! $ fpick ! (λ so. drop ! $ fsplit3 ! $ move ! (1 ∷ 3 ∷ []) $
        use2 𝓛 (raw (upd 𝓤 (ex 𝓤 (Laid ms (d.at + s))))) (lay ms i γ (d.at + s) e lies.1 (subst (λ (γs : List ℕ). Has γs i γ) (sym so.0) lies.0)) $
        settle 𝓛 Z (some (λ (ns : TicketMarks). given ((of_marks ns ≡ of_marks ms) × (missing ms ≡ suc (missing ns))) (‵ (laid X U R b ns (d.at + s))))) $ pick ! (λ ns. learn ! (λ it.
        move ! (1 ∷ 0 ∷ 2 ∷ []) $ rewrite ! 0 (λ (k : ℕ). ‵ (word b c k)) it.1 refl $ by ! (ends_at (missing ns) ns refl (it.0 ∙ so.0) (subst (λ (k : ℕ). k < 2 ^ 64) it.1 so.1)))))

    pub ends : (e i γ : ℕ) → Lies X U R b d e i γ → A.inv I ∗ ⟦ back γ e ⟧ ⊢ asks 𝓛 (block_ptr b c) less always after_end
    ends e i γ lies = steps.plainly 𝓛 I b c less always after_end ⟦ back γ e ⟧ (qed 𝓛 (‵ I ∷ ‵ (back γ e) ∷ []) ∵ fpick ! (λ t. by ! (end_from t e i γ lies)))

  -- ---- a row begins
  abbrev Named : ℕ → List ℕ → Pr
  Named n γs = guard 𝓤 (length γs ≡ n) ⟦ held_all γs ⟧

  names : (n : ℕ) → emp 𝓤 ⊢ H.⇛ (ex 𝓤 (Named n))
  names zero = qed 𝓛 [] ∵ updating ! $ now ! $ show ! (Named 0) [] $ check ! refl $ nothing ! $ done !
  names (suc n) = qed 𝓛 [] ∵ updating ! $ use0 𝓛 (later (some (λ (γs : List ℕ). given (length γs ≡ n) (‵ (held_all γs))))) (names n) $ await ! tt $ pick ! (λ γs. learn ! (λ long.
      name_new ! tt (gnum 0) (λ γ. fjoin ! $ fjoin ! $ now ! $ show ! (Named (suc n)) (γ ∷ γs) $ check ! (ap suc long) $ done !)))

  abbrev fresh : List ℕ → TicketMarks
  fresh [] = []
  fresh (γ ∷ γs) = (γ, false) ∷ fresh γs

  fresh_of : (γs : List ℕ) → of_marks (fresh γs) ≡ γs
  fresh_of [] = refl
  fresh_of (γ ∷ γs) = ap (λ (δs : List ℕ). γ ∷ δs) (fresh_of γs)

  fresh_missing : (γs : List ℕ) → missing (fresh γs) ≡ length γs
  fresh_missing [] = refl
  fresh_missing (γ ∷ γs) = ap suc (fresh_missing γs)

  fresh_laid : (γs : List ℕ) (e : ℕ) → emp 𝓤 ⊢ ⟦ laid X U R b (fresh γs) e ⟧
  fresh_laid [] e = qed 𝓛 [] ∵ nothing ! $ done !
  fresh_laid (γ ∷ γs) e = qed 𝓛 [] ∵ use0 𝓛 (‵ (laid X U R b (fresh γs) (e + s))) (fresh_laid γs (e + s)) $ nothing ! $ fjoin ! $ done !

  abbrev pub Begun : ℕ → ℕ → List ℕ → Pr
  Begun o n γs = guard 𝓤 (length γs ≡ n) (⟦ held_all γs ⟧ ∗ A.inv (Shared X U R b (record { at = o; tickets = γs })))

  pub begins : (o n : ℕ) → n < 2 ^ 64 → ⟦ word b (o + 0) n ⟧ ∗ ⟦ head_with X U R b o n ⟧ ⊢ H.⇛ (ex 𝓤 (Begun o n))
  begins o n small = qed 𝓛 (‵ (word b (o + 0) n) ∷ ‵ (head_with X U R b o n) ∷ []) ∵ updating ! $ use0 𝓛 (later (some (λ (γs : List ℕ). given (length γs ≡ n) (‵ (held_all γs))))) (names n) $ await ! tt $ pick ! (λ γs. learn ! (λ long.
      let d : RowDeed = record { at = o; tickets = γs } in let ms : TicketMarks = fresh γs in let many : missing ms ≡ n = fresh_missing γs ∙ long in
      move ! (1 ∷ 2 ∷ []) $ rewrite ! 0 (λ (k : ℕ). ‵ (word b (o + 0) k)) (sym many) refl $ rewrite ! 1 (λ (k : ℕ). ‵ (head_with X U R b o k)) (sym long) refl $
      move ! (1 ∷ []) $ use0 𝓛 (‵ (laid X U R b ms (o + s))) (fresh_laid γs (o + s)) $ fjoin ! $ move ! (1 ∷ 0 ∷ []) $ fjoin ! $
      nothing ! $ fpack ! ((of_marks ms ≡ γs) × (missing ms < 2 ^ 64)) (λ _. ftrue) (fresh_of γs, subst (λ (k : ℕ). k < 2 ^ 64) (sym many) small) $ fjoin ! $ fpack ! RowStage (stage X U R b d) (stands ms) $
      use1 𝓛 (later (‵ (finv (Shared X U R b d)))) (𝓛.invs.inv_new (Shared X U R b d)) $ await ! tt $ now ! $ show ! (Begun o n) γs $ check ! long $ move ! (1 ∷ 0 ∷ []) $ done !))

  -- a row's next chunk
  abbrev pub Cut : ℕ → ℕ → RowDeed → ℕ → List ℕ → Pr
  Cut e left d i γs = ⟦ body e ⟧ ∗ ⟦ fex (ℕ × ℕ) (ticket X U R b d e) ⟧ ∗ ⟦ uncut X U R b (e + s) left (d, suc i, γs) ⟧

  cut_off : (e left : ℕ) (d : RowDeed) (i : ℕ) (γs : List ℕ) → ⟦ uncut X U R b e (suc left) (d, i, γs) ⟧ ⊢ ex 𝓤 (λ (δs : List ℕ). guard 𝓤 (s < 2 ^ 63) (Cut e left d i δs))
  cut_off e left d i [] = qed 𝓛 (‵ (uncut X U R b e (suc left) (d, i, [])) ∷ []) ∵ fsplit ! $ fpick ! (λ so. absurd (let n = so.0 in omega arith))
  cut_off e left d i (γ ∷ γs) = let I : Fml = Shared X U R b d in
      qed 𝓛 (‵ (uncut X U R b e (suc left) (d, i, γ ∷ γs)) ∷ []) ∵ fsplit ! $ fpick ! (λ so. drop ! $ show ! (λ (δs : List ℕ). guard 𝓤 (s < 2 ^ 63) (Cut e left d i δs)) γs $ check ! so.3 $
      let m = suc-mul i s in let z = so.2 in let next : e + s ≡ suc i * s + (d.at + s) = omega arith in let long : length γs ≡ left = (let n = so.0 in omega arith) in
      let later' : Tail d.tickets (suc i) γs = λ k δ has. subst (λ (j : ℕ). Has d.tickets j δ) (let r : suc k + i ≡ k + suc i = omega arith in r) (so.1 (suc k) δ has) in
      let mine : Lies X U R b d e i γ = (subst (λ (j : ℕ). Has d.tickets j γ) (let r : 0 + i ≡ i = omega arith in r) (so.1 0 γ refl), so.2) in
      fsplit ! $ use1 𝓛 (‵ (finv I) ⊛ ‵ (finv I)) (𝓛.invs.inv_dup I) $ split ! $ move ! (2 ∷ []) $ fsplit3 ! $
      use1 𝓛 (‵ (body e) ⊛ ‵ (row_room left (e + s))) (cuts left e) $ split ! $ frame ! $
      -- [the other rooms; the ticket; the other tickets; the invariant, twice]
      move ! (1 ∷ 3 ∷ []) $ fjoin ! $ nothing ! $ fpack ! (Lies X U R b d e i γ) (λ _. ftrue) mine $ fjoin ! $ fpack ! (ℕ × ℕ) (ticket X U R b d e) (i, γ) $ frame ! $
      fjoin ! $ move ! (1 ∷ 0 ∷ []) $ fjoin ! $ nothing ! $ fpack ! ((length γs ≡ left) × Tail d.tickets (suc i) γs × (e + s ≡ suc i * s + (d.at + s)) × (s < 2 ^ 63)) (λ _. ftrue) (long, later', next, so.3) $ fjoin ! $ done !)

  pub cut_next : (e left : ℕ) (t : RowDeed × ℕ × List ℕ) → ⟦ uncut X U R b e (suc left) t ⟧ ⊢ ex 𝓤 (λ (δs : List ℕ). guard 𝓤 (s < 2 ^ 63) (Cut e left t.0 t.1 δs))
  cut_next e left t = cut_off e left t.0 t.1 t.2
