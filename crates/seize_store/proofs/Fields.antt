-- The one pointer of a chunk and of a room that is out, and the two fields of a block. Assumes `Logic`.
use Rattle.std.proofs.Common.{◌≡◌, ℕ, List, [], ◌∷◌, ◌++◌, refl, ◌∙◌, subst, Bool, ◌&&◌, T}
use seplogic.Ra.Ura.{Ura}
use mir.Val.{Val, vptr, vstruct, vcons, vnil, of_list, has_ty, WT}
use base.Logic.{never, id⊢}
use base.Fml.{fex}
use types.Logic.{Logic}
use types.Kit.{Item, Goal, Seq, Step, step, ‵, ◌$◌, move, drop, fsplit, fjoin, fpick, fpack, rewrite, feq_i, feq_l}
use denote.RattleType.{RattleType, Valss}
use denote.Builtin.{RawPtr}
use denote.Laws.{Is, shows}
use denote.Opens.{Opens}
use denote.Copied.{Struct-Copied}
use denote.Param.{layout}
use denote.RawPtr.{Ptr, block_ptr, ptr_val, in_a_block}
use denote.Steps.{nothing, peeks}
use denote.Struct.Laws.{RawPtr-copy}
use denote.Struct.Struct.{Struct, within}
use denote.Struct.Owning.{shape}
use Rattle.core.proofs.cell.Inside.{Good, one}
use Rattle.std_alloc.proofs.ResultValues.{and_tt}
use Rattle.seize_store.specs.Chunk.{chunk_owns, placed}
use Rattle.seize_content.specs.Contents.{ticket_owns}
use Rattle.seize_content.specs.Stages.{held as unlent}
use Rattle.seize_table.specs.Pairs.{right_of}
use Rattle.seize_store.specs.Block.{bare, empty, full, hollow, lain_owns, out_owns}
use Rattle.seize_store.specs.Titled.{title_tag, title_place}
use Rattle.seize_store.specs.contracts.chunk.Chunk as chunk
use Rattle.seize_table.specs.declared.labelled.Labelled.{Ghosts}
use Rattle.seize_store.specs.contracts.block.Hull as hull
use Rattle.seize_store.specs.contracts.block.Out as room
use Rattle.seize_store.specs.contracts.block.Shell as shell
use Rattle.seize_store.specs.contracts.block.Block as block
use Rattle.seize_store.specs.contracts.row_token.Title as title
use Rattle.seize_store.proofs.row_token.Title.TheLaws as title_laws

abbrev pub single : Val → Val
single v = vstruct (vcons v vnil)

abbrev pub both : Val → Val → Val
both v w = vstruct (vcons v (vcons w vnil))

pub single_good : (b o : ℕ) → T (has_ty mir.Syntax.ty_ptr (vptr b o) && Bool.true) × WT (single (vptr b o))
single_good b o = (tt, (tt, tt))

-- a title is one machine value
module _ {M : Type 1} {𝓤 : Ura M} {𝓛 : Logic 𝓤} {K : Type 0} {Γ : List (Item 𝓤)} {G : Goal 𝓤 𝓛.H} where
  pub title_tells : K → (d : title.the_row.Denot) (vs : List Val) → ((v : Val) → vs ≡ v ∷ [] → Good (layout title.the_row) v → Seq K 𝓛 (‵ (title.the_row.own_val d (v ∷ [])) ∷ Γ) G) → Seq K 𝓛 (‵ (title.the_row.own_val d vs) ∷ Γ) G
  title_tells t d vs k = peeks t title.the_row (Is title.the_row) (shows 𝓛 title.the_row) d vs (λ is. let v = one (layout title.the_row) vs ((title_laws.the_row_laws.lawful 𝓛).typed d vs is) in
      rewrite t 0 (λ (us : List Val). ‵ (title.the_row.own_val d us)) v.1 refl $ k v.0 v.1 v.2)

pub block_good : (b o : ℕ) (h : Val) → Good (layout title.the_row) h → T (has_ty mir.Syntax.ty_ptr (vptr b o) && (has_ty (layout title.the_row) h && Bool.true)) × WT (both (vptr b o) h)
block_good b o h fits = (and_tt (has_ty (layout title.the_row) h) fits.0, (tt, (fits.1, tt)))

module _ (X U R : RattleType) (g : Ghosts U.Denot) where
  abbrev pub Chunk : RattleType
  Chunk = chunk.the_row X U R g

  abbrev pub Out : RattleType
  Out = room.the_row X U R g

  abbrev pub Block : RattleType
  Block = block.the_row X U R g

  abbrev pub Hull : RattleType
  Hull = hull.the_row X U R g

  abbrev pub Shell : RattleType
  Shell = shell.the_row X U R g

  abbrev pub Data : RattleType
  Data = Struct (shape (chunk.the_type X U R g))

  pub told : (p : Ptr) (vs : List Val) → Is Data (p, tt) vs → vs ≡ single (ptr_val p) ∷ []
  told p vs is = is.1.0 ∙ (λ i. vstruct (of_list (is.1.1.0 i ++ [])) ∷ [])

  pub opened : {M : Type 1} {𝓤 : Ura M} (𝓛 : Logic 𝓤) → Opens 𝓛 Data
  opened {M} {𝓤 = 𝓤} 𝓛 = (Struct-Copied 𝓛 (shape (chunk.the_type X U R g)) (refl, tt) (RawPtr-copy.copied M 𝓤 𝓛, tt)).opens

  abbrev pub HullData : RattleType
  HullData = Struct (shape (hull.the_type X U R g))

  pub hull_told : (p : Ptr) (vs : List Val) → Is HullData (p, tt) vs → vs ≡ single (ptr_val p) ∷ []
  hull_told p vs is = is.1.0 ∙ (λ i. vstruct (of_list (is.1.1.0 i ++ [])) ∷ [])

  pub hull_opened : {M : Type 1} {𝓤 : Ura M} (𝓛 : Logic 𝓤) → Opens 𝓛 HullData
  hull_opened {M} {𝓤 = 𝓤} 𝓛 = (Struct-Copied 𝓛 (shape (hull.the_type X U R g)) (refl, tt) (RawPtr-copy.copied M 𝓤 𝓛, tt)).opens

  module _ {M : Type 1} {𝓤 : Ura M} {𝓛 : Logic 𝓤} {K : Type 0} {Γ : List (Item 𝓤)} {G : Goal 𝓤 𝓛.H} where
    pub chunk_out : K → (d : Chunk.Denot) (vs : List Val)
        → ((b o : ℕ) → d.at ≡ block_ptr b o → vs ≡ single (vptr b o) ∷ [] → Seq K 𝓛 (‵ (chunk_owns X U R g.label d.tag d.life d.out d.home (block_ptr b o) d.header) ∷ Γ) G)
        → Seq K 𝓛 (‵ (Chunk.own_val d vs) ∷ Γ) G
    chunk_out t d vs k =
        fsplit t $ fpick t (λ vss. fsplit t $ feq_l t (λ ev. fsplit t $ feq_l t (λ ep. drop t $
        in_a_block t d.at (λ s. chunk_owns X U R g.label d.tag d.life d.out d.home s d.header) (id⊢ 𝓤 (never 𝓤)) (λ b o e. k b o e
        (subst (λ (s : Ptr). vs ≡ single (ptr_val s) ∷ []) e (ev ∙ (λ i. vstruct (of_list (ep i ++ [])) ∷ [])))))))

    pub chunk_in : K → (b o : ℕ) (k a δ η : ℕ) (h : X.Denot)
        → Step K 𝓛 (‵ (Chunk.own_val (record { at = block_ptr b o; life = a; out = δ; home = η; tag = k; header = h }) (single (vptr b o) ∷ [])) ∷ Γ) G (‵ (chunk_owns X U R g.label k a δ η (block_ptr b o) h) ∷ Γ) G
    chunk_in t b o k a δ η h = step (λ s. let v : Val = single (vptr b o) in
        nothing t $ feq_i t (List Val) (vptr b o ∷ []) (vptr b o ∷ []) refl $ fjoin t $ feq_i t (List Val) (v ∷ []) (v ∷ []) refl $ fjoin t $
        fpack t (Valss (RawPtr ∷ [])) (within (shape (chunk.the_type X U R g)) (block_ptr b o, tt) (v ∷ [])) (vptr b o ∷ [], tt) $ fjoin t $ s)

    pub room_out : K → (d : Out.Denot) (vs : List Val)
        → ((b o : ℕ) (t' : ℕ × (ℕ × ℕ)) → d.at ≡ block_ptr b o → vs ≡ single (vptr b o) ∷ [] → Seq K 𝓛 (‵ (empty X U R b o g.label d.tag t') ∷ Γ) G)
        → Seq K 𝓛 (‵ (Out.own_val d vs) ∷ Γ) G
    room_out t d vs k =
        fsplit t $ fpick t (λ vss. fsplit t $ feq_l t (λ ev. fsplit t $ feq_l t (λ ep. drop t $
        in_a_block t d.at (λ s. out_owns X U R g.label s d.tag) (id⊢ 𝓤 (never 𝓤)) (λ b o e. fpick t (λ t'. k b o t' e
        (subst (λ (s : Ptr). vs ≡ single (ptr_val s) ∷ []) e (ev ∙ (λ i. vstruct (of_list (ep i ++ [])) ∷ []))))))))

    pub room_in : K → (b o k : ℕ) (t' : ℕ × (ℕ × ℕ))
        → Step K 𝓛 (‵ (Out.own_val (record { at = block_ptr b o; tag = k }) (single (vptr b o) ∷ [])) ∷ Γ) G (‵ (empty X U R b o g.label k t') ∷ Γ) G
    room_in t b o k t' = step (λ s. let v : Val = single (vptr b o) in
        fpack t (ℕ × (ℕ × ℕ)) (empty X U R b o g.label k) t' $ nothing t $ feq_i t (List Val) (vptr b o ∷ []) (vptr b o ∷ []) refl $ fjoin t $ feq_i t (List Val) (v ∷ []) (v ∷ []) refl $ fjoin t $
        fpack t (Valss (RawPtr ∷ [])) (within (shape (room.the_type X U R g)) (block_ptr b o, tt) (v ∷ [])) (vptr b o ∷ [], tt) $ fjoin t $ s)

    pub block_out : K → (d : Block.Denot) (vs : List Val)
        → ((b o : ℕ) (t' : ℕ × (ℕ × ℕ)) (h : Val) → d.at ≡ block_ptr b o → title_place d.title ≡ block_ptr b o → vs ≡ both (vptr b o) h ∷ [] → Good (layout title.the_row) h
        → Seq K 𝓛 (‵ (full X U R b o g.label (title_tag d.title) d.value t') ∷ ‵ (title.the_row.own_val d.title (h ∷ [])) ∷ Γ) G)
        → Seq K 𝓛 (‵ (Block.own_val d vs) ∷ Γ) G
    block_out t d vs k =
        fsplit t $ fpick t (λ vss. fsplit t $ feq_l t (λ ev. fsplit t $ feq_l t (λ ep. fsplit t $ title_tells t d.title vss.1.0 (λ h eh good. move t (1 ∷ []) $ drop t $ move t (1 ∷ []) $
        fsplit t $ feq_l t (λ en. in_a_block t d.at (λ s. placed s (λ b o. fex (ℕ × (ℕ × ℕ)) (full X U R b o g.label (title_tag d.title) d.value))) (id⊢ 𝓤 (never 𝓤)) (λ b o e. fpick t (λ t'. k b o t' h e (en ∙ e)
        (subst (λ (s : Ptr). vs ≡ both (ptr_val s) h ∷ []) e (ev ∙ (λ i. vstruct (of_list (ep i ++ (eh i ++ []))) ∷ []))) good)))))))

    pub block_in : K → (b o : ℕ) (t' : ℕ × (ℕ × ℕ)) (h : Val) (d : title.the_row.Denot) (x : R.Denot) → title_place d ≡ block_ptr b o
        → Step K 𝓛 (‵ (Block.own_val (record { at = block_ptr b o; title = d; value = x }) (both (vptr b o) h ∷ [])) ∷ Γ) G (‵ (full X U R b o g.label (title_tag d) x t') ∷ ‵ (title.the_row.own_val d (h ∷ [])) ∷ Γ) G
    block_in t b o t' h d x e = step (λ s. let v : Val = both (vptr b o) h in
        fpack t (ℕ × (ℕ × ℕ)) (full X U R b o g.label (title_tag d) x) t' $ feq_i t Ptr (title_place d) (block_ptr b o) e $ fjoin t $ nothing t $ move t (2 ∷ 0 ∷ []) $ fjoin t $ feq_i t (List Val) (vptr b o ∷ []) (vptr b o ∷ []) refl $ fjoin t $ feq_i t (List Val) (v ∷ []) (v ∷ []) refl $ fjoin t $
        fpack t (Valss (RawPtr ∷ title.the_field.row ∷ [])) (within (shape (block.the_type X U R g)) (block_ptr b o, (title.the_field.into d, tt)) (v ∷ [])) (vptr b o ∷ [], (h ∷ [], tt)) $ fjoin t $ s)

    pub hull_out : K → (d : Hull.Denot) (vs : List Val)
        → ((b o : ℕ) (t' : ℕ × (ℕ × ℕ)) → d.at ≡ block_ptr b o → vs ≡ single (vptr b o) ∷ [] → Seq K 𝓛 (‵ (bare X U R b o g.label d.tag d.value t') ∷ ‵ (ticket_owns (right_of d.tag) unlent) ∷ Γ) G)
        → Seq K 𝓛 (‵ (Hull.own_val d vs) ∷ Γ) G
    hull_out t d vs k =
        fsplit t $ fpick t (λ vss. fsplit t $ feq_l t (λ ev. fsplit t $ feq_l t (λ ep. drop t $
        fsplit t $ in_a_block t d.at (λ s. lain_owns X U R g.label s d.tag d.value) (id⊢ 𝓤 (never 𝓤)) (λ b o e. fpick t (λ t'. k b o t' e
        (subst (λ (s : Ptr). vs ≡ single (ptr_val s) ∷ []) e (ev ∙ (λ i. vstruct (of_list (ep i ++ [])) ∷ []))))))))

    pub hull_in : K → (b o k : ℕ) (x : R.Denot) (t' : ℕ × (ℕ × ℕ))
        → Step K 𝓛 (‵ (Hull.own_val (record { at = block_ptr b o; tag = k; value = x }) (single (vptr b o) ∷ [])) ∷ Γ) G (‵ (bare X U R b o g.label k x t') ∷ ‵ (ticket_owns (right_of k) unlent) ∷ Γ) G
    hull_in t b o k x t' = step (λ s. let v : Val = single (vptr b o) in
        fpack t (ℕ × (ℕ × ℕ)) (bare X U R b o g.label k x) t' $ fjoin t $ nothing t $ feq_i t (List Val) (vptr b o ∷ []) (vptr b o ∷ []) refl $ fjoin t $ feq_i t (List Val) (v ∷ []) (v ∷ []) refl $ fjoin t $
        fpack t (Valss (RawPtr ∷ [])) (within (shape (hull.the_type X U R g)) (block_ptr b o, tt) (v ∷ [])) (vptr b o ∷ [], tt) $ fjoin t $ s)

    pub shell_out : K → (d : Shell.Denot) (vs : List Val)
        → ((b o : ℕ) (t' : ℕ × (ℕ × ℕ)) → d.at ≡ block_ptr b o → vs ≡ single (vptr b o) ∷ [] → Seq K 𝓛 (‵ (hollow X U R b o g.label d.tag t') ∷ ‵ (ticket_owns (right_of d.tag) unlent) ∷ Γ) G)
        → Seq K 𝓛 (‵ (Shell.own_val d vs) ∷ Γ) G
    shell_out t d vs k =
        fsplit t $ fpick t (λ vss. fsplit t $ feq_l t (λ ev. fsplit t $ feq_l t (λ ep. drop t $
        fsplit t $ in_a_block t d.at (λ s. placed s (λ b o. fex (ℕ × (ℕ × ℕ)) (hollow X U R b o g.label d.tag))) (id⊢ 𝓤 (never 𝓤)) (λ b o e. fpick t (λ t'. k b o t' e
        (subst (λ (s : Ptr). vs ≡ single (ptr_val s) ∷ []) e (ev ∙ (λ i. vstruct (of_list (ep i ++ [])) ∷ []))))))))

    pub shell_in : K → (b o k : ℕ) (t' : ℕ × (ℕ × ℕ))
        → Step K 𝓛 (‵ (Shell.own_val (record { at = block_ptr b o; tag = k }) (single (vptr b o) ∷ [])) ∷ Γ) G (‵ (hollow X U R b o g.label k t') ∷ ‵ (ticket_owns (right_of k) unlent) ∷ Γ) G
    shell_in t b o k t' = step (λ s. let v : Val = single (vptr b o) in
        fpack t (ℕ × (ℕ × ℕ)) (hollow X U R b o g.label k) t' $ fjoin t $ nothing t $ feq_i t (List Val) (vptr b o ∷ []) (vptr b o ∷ []) refl $ fjoin t $ feq_i t (List Val) (v ∷ []) (v ∷ []) refl $ fjoin t $
        fpack t (Valss (RawPtr ∷ [])) (within (shape (shell.the_type X U R g)) (block_ptr b o, tt) (v ∷ [])) (vptr b o ∷ [], tt) $ fjoin t $ s)
