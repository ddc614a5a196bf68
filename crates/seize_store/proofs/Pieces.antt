-- What a piece, a strip and a row's memory are as machine values. Assumes `Logic`.
use Rattle.std.proofs.Common.{◌≡◌, ℕ, zero, suc, ◌+◌, ◌*◌, ◌^◌, ◌<◌, List, [], ◌∷◌, ◌++◌, length, refl, sym, ap, ◌∙◌, subst, arith, suc-mul, zero-mul, w64}
use seplogic.Ra.Ura.{Ura}
use mir.Syntax.{Body, skip, seq, assign, block, loop, cond, switch, exit, return, call, call_v, unreachable, lend_static}
use mir.Val.{Val, vint, vptr, vstruct, vcons, vnil, of_list}
use base.Logic.{ent, emp, id⊢}
use base.Fml.{Fml, fsep}
use prog.Memory.{align, capped}
use prog.RawLaws.{size-raw, align-raw}
use prog.Capped.{capped_is}
use types.Logic.{Logic, sem}
use types.Kit.{Item, Goal, Seq, Step, step, ‵, ◌$◌, move, drop, fsplit, fjoin, fpick, fpack, use0, feq_l}
use denote.RattleType.{RattleType}
use denote.Laws.{Is, shows}
use denote.RawPtr.{Ptr, block_ptr, null_ptr, ptr_val, in_a_block, ◌+ₚ◌, block_of, count_of}
use denote.Shadow.{makes_shadow}
use denote.Opens.{Opens}
use denote.Copied.{Struct-Copied}
use denote.Struct.Laws.{RawPtr-copy}
use denote.Steps.{nothing, peeks}
use denote.Struct.Struct.{Struct}
use denote.Struct.Owning.{shape}
use Rattle.std.specs.declared.alloc.Allocator.{Ghosts}
use Rattle.seize_store.specs.Body.{plain_ty, row_ty, stride}
use Rattle.seize_store.specs.Row.{RowDeed, uncut, strip_by, strip_owns, rooms_own, line, IsRow, at_entry}
use Rattle.seize_store.specs.Chunk.{piece, piece_owns, remains, remains_own}
use Rattle.seize_store.specs.contracts.chunk.Base as base_row
use Rattle.seize_store.specs.contracts.chunk.Remains as remains_row
use Rattle.seize_store.specs.contracts.strip.Piece as piece_row
use Rattle.seize_store.specs.contracts.strip.Strip as strip
use Rattle.seize_store.specs.contracts.strip.Rooms as rooms
use Rattle.seize_store.proofs.Fields.{single, both}

-- what a condition's first arm does
abbrev pub then_of : Body → Body
then_of skip = skip
then_of (seq x₀ x₁) = skip
then_of (assign x₀ x₁) = skip
then_of (block x₀) = skip
then_of (loop x₀) = skip
then_of (cond x₀ x₁ x₂) = x₁
then_of (switch x₀ x₁) = skip
then_of (exit x₀) = skip
then_of return = skip
then_of (call x₀ x₁ x₂) = skip
then_of (call_v x₀ x₁ x₂ x₃) = skip
then_of unreachable = skip
then_of (lend_static x₀ x₁ x₂) = skip

abbrev pub three : Val → ℕ → Val
three v n = vstruct (vcons v (vcons (vint w64 n) (vcons (vstruct vnil) vnil)))

-- a size that is computed from one that a word holds
pub uncapped : (n s : ℕ) → n * s < 2 ^ 64 → n * capped s ≡ n * s
uncapped zero s small = zero-mul (capped s) ∙ sym (zero-mul s)
uncapped (suc n) s small = let m = suc-mul n s in ap (λ (k : ℕ). suc n * k) (capped_is s (omega arith))

module _ (X U R : RattleType) where
  pub row_size : (n : ℕ) → n * stride X U R < 2 ^ 64 → capped (prog.Memory.size (row_ty X U R n)) ≡ n * stride X U R
  row_size n small = ap capped (size-raw (mir.Syntax.ty_array (plain_ty X U R) n)) ∙ capped_is (n * stride X U R) small

  pub row_align : (n : ℕ) → capped (align (row_ty X U R n)) ≡ capped (align (plain_ty X U R))
  row_align n = ap capped (align-raw (mir.Syntax.ty_array (plain_ty X U R) n))

  abbrev pub Base : RattleType
  Base = base_row.the_row X U R

  abbrev pub Piece : RattleType
  Piece = piece_row.the_row X U R

  abbrev pub Remains : RattleType
  Remains = remains_row.the_row X U R

  abbrev pub Strip : RattleType
  Strip = strip.the_row X U R

  abbrev pub BaseData : RattleType
  BaseData = Struct (shape (base_row.the_type X U R))

  pub base_told : (p : Ptr) (vs : List Val) → Is BaseData (p, tt) vs → vs ≡ single (ptr_val p) ∷ []
  base_told p vs is = is.1.0 ∙ (λ i. vstruct (of_list (is.1.1.0 i ++ [])) ∷ [])

  pub base_opened : {M : Type 1} {𝓤 : Ura M} (𝓛 : Logic 𝓤) → Opens 𝓛 BaseData
  base_opened {M} {𝓤 = 𝓤} 𝓛 = (Struct-Copied 𝓛 (shape (base_row.the_type X U R)) (refl, tt) (RawPtr-copy.copied M 𝓤 𝓛, tt)).opens

  -- the places of a row
  pub line_length : (p : Ptr) (n : ℕ) → length (line X U R p n) ≡ n
  line_length p zero = refl
  line_length p (suc n) = ap suc (line_length (p +ₚ stride X U R) n)

  line_at : (b o n i : ℕ) → i < n → at_entry (line X U R (block_ptr b o) n) i ≡ block_ptr b (i * stride X U R + o)
  line_at b o zero i near = absurd (omega arith)
  line_at b o (suc n) zero near = let z = zero-mul (stride X U R) in ap (λ (k : ℕ). block_ptr b k) (let r : o ≡ 0 * stride X U R + o = omega arith in r)
  line_at b o (suc n) (suc i) near = let m = suc-mul i (stride X U R) in line_at b (o + stride X U R) n i (omega arith)
      ∙ ap (λ (k : ℕ). block_ptr b k) (let r : i * stride X U R + (o + stride X U R) ≡ suc i * stride X U R + o = omega arith in r)

  line_null : (n i : ℕ) → at_entry (line X U R null_ptr n) i ≡ null_ptr
  line_null zero i = refl
  line_null (suc n) zero = refl
  line_null (suc n) (suc i) = line_null n i

  -- where a row begins, one of whose chunks lies at b, o
  pub begins_at : (q : Ptr) (n i b o : ℕ) → i < n → at_entry (line X U R q n) i ≡ block_ptr b o → (k : ℕ) × (q ≡ block_ptr b k) × (i * stride X U R + k ≡ o)
  begins_at (block_ptr c k) n i b o near e = let f = sym (line_at c k n i near) ∙ e in (k, ap (λ (x : ℕ). block_ptr x k) (ap block_of f), ap count_of f)
  begins_at null_ptr n i b o near e = absurd (subst (λ (p : Ptr). denote.RawPtr.InBlock p) (sym (sym (line_null n i) ∙ e)) tt)

  module _ {M : Type 1} {𝓤 : Ura M} (𝓛 : Logic 𝓤) where
    base_made : (p : Ptr) → ent 𝓤 (emp 𝓤) (sem 𝓛 (BaseData.own_val (p, tt) (single (ptr_val p) ∷ [])))
    base_made p = makes_shadow 𝓛 (BaseData.own_val (p, tt) (single (ptr_val p) ∷ [])) (λ vss. (tt, (tt, tt))) ((ptr_val p ∷ [], tt), (refl, (refl, tt)))

    abbrev PieceData : Ptr → Fml
    PieceData p = (Struct (shape (piece_row.the_type X U R))).own_val (p, tt) (single (ptr_val p) ∷ [])

    piece_made : (p : Ptr) → ent 𝓤 (emp 𝓤) (sem 𝓛 (PieceData p))
    piece_made p = makes_shadow 𝓛 (PieceData p) (λ vss. (tt, (tt, tt))) ((ptr_val p ∷ [], tt), (refl, (refl, tt)))

    abbrev RemainsData : Ptr → Fml
    RemainsData p = (Struct (shape (remains_row.the_type X U R))).own_val (p, tt) (single (ptr_val p) ∷ [])

    remains_made : (p : Ptr) → ent 𝓤 (emp 𝓤) (sem 𝓛 (RemainsData p))
    remains_made p = makes_shadow 𝓛 (RemainsData p) (λ vss. (tt, (tt, tt))) ((ptr_val p ∷ [], tt), (refl, (refl, tt)))

    abbrev StripData : Ptr → Ptr → Fml
    StripData p q = (Struct (shape (strip.the_type X U R))).own_val (p, (q, tt)) (both (ptr_val p) (ptr_val q) ∷ [])

    strip_made : (p q : Ptr) → ent 𝓤 (emp 𝓤) (sem 𝓛 (StripData p q))
    strip_made p q = makes_shadow 𝓛 (StripData p q) (λ vss. (tt, (tt, (tt, tt)))) ((ptr_val p ∷ [], (ptr_val q ∷ [], tt)), (refl, (refl, (refl, tt))))

  module _ {M : Type 1} {𝓤 : Ura M} {𝓛 : Logic 𝓤} {K : Type 0} {Γ : List (Item 𝓤)} {G : Goal 𝓤 𝓛.H} where
    pub piece_out : K → (d : Piece.Denot) (vs : List Val)
        → ((b o : ℕ) → d.at ≡ block_ptr b o → vs ≡ single (vptr b o) ∷ [] → Seq K 𝓛 (‵ (piece X U R b o) ∷ Γ) G)
        → Seq K 𝓛 (‵ (Piece.own_val d vs) ∷ Γ) G
    piece_out t d vs k =
        fsplit t $ fpick t (λ vss. fsplit t $ feq_l t (λ ev. fsplit t $ feq_l t (λ ep. drop t $
        in_a_block t d.at (λ s. piece_owns X U R s) (id⊢ 𝓤 (base.Logic.never 𝓤)) (λ b o e. k b o e
        (subst (λ (s : Ptr). vs ≡ single (ptr_val s) ∷ []) e (ev ∙ (λ i. vstruct (of_list (ep i ++ [])) ∷ [])))))))

    pub piece_in : K → (b o : ℕ) → Step K 𝓛 (‵ (Piece.own_val (record { at = block_ptr b o }) (single (vptr b o) ∷ [])) ∷ Γ) G (‵ (piece X U R b o) ∷ Γ) G
    piece_in t b o = step (λ s. use0 𝓛 (‵ (PieceData 𝓛 (block_ptr b o))) (piece_made 𝓛 (block_ptr b o)) $ fjoin t $ s)

    pub remains_out : K → (d : Remains.Denot) (vs : List Val)
        → ((b o : ℕ) → d.at ≡ block_ptr b o → vs ≡ single (vptr b o) ∷ [] → Seq K 𝓛 (‵ (remains X U R b o) ∷ Γ) G)
        → Seq K 𝓛 (‵ (Remains.own_val d vs) ∷ Γ) G
    remains_out t d vs k =
        fsplit t $ fpick t (λ vss. fsplit t $ feq_l t (λ ev. fsplit t $ feq_l t (λ ep. drop t $
        in_a_block t d.at (λ s. remains_own X U R s) (id⊢ 𝓤 (base.Logic.never 𝓤)) (λ b o e. k b o e
        (subst (λ (s : Ptr). vs ≡ single (ptr_val s) ∷ []) e (ev ∙ (λ i. vstruct (of_list (ep i ++ [])) ∷ [])))))))

    pub remains_in : K → (b o : ℕ) → Step K 𝓛 (‵ (Remains.own_val (record { at = block_ptr b o }) (single (vptr b o) ∷ [])) ∷ Γ) G (‵ (remains X U R b o) ∷ Γ) G
    remains_in t b o = step (λ s. use0 𝓛 (‵ (RemainsData 𝓛 (block_ptr b o))) (remains_made 𝓛 (block_ptr b o)) $ fjoin t $ s)

    pub strip_out : K → (d : Strip.Denot) (vs : List Val)
        → ((b e : ℕ) (u : RowDeed × ℕ × List ℕ) → d.places ≡ line X U R (block_ptr b e) (length d.places) → vs ≡ both (vptr b e) (vptr b u.0.at) ∷ [] → Seq K 𝓛 (‵ (uncut X U R b e (length d.places) u) ∷ Γ) G)
        → Seq K 𝓛 (‵ (Strip.own_val d vs) ∷ Γ) G
    strip_out t d vs k =
        fsplit t $ fpick t (λ vss. fsplit t $ feq_l t (λ ev. fsplit t $ feq_l t (λ ep. fsplit t $ feq_l t (λ eq. drop t $
        in_a_block t d.at (λ s. strip_owns X U R s d.head d.places) (id⊢ 𝓤 (base.Logic.never 𝓤)) (λ b o e. fpick t (λ u. fsplit t $ feq_l t (λ at. fsplit t $ fpick t (λ so. drop t $ k b o u so
        (subst (λ (s : Ptr). vs ≡ both (ptr_val s) (vptr b u.0.at) ∷ []) e (subst (λ (s : Ptr). vs ≡ both (ptr_val d.at) (ptr_val s) ∷ []) at
        (ev ∙ (λ i. vstruct (of_list (ep i ++ (eq i ++ []))) ∷ []))))))))))))

    pub strip_in : K → (b e n : ℕ) (u : RowDeed × ℕ × List ℕ) → let ps : List Ptr = line X U R (block_ptr b e) n in
        Step K 𝓛 (‵ (Strip.own_val (record { at = block_ptr b e; head = block_ptr b u.0.at; places = ps }) (both (vptr b e) (vptr b u.0.at) ∷ [])) ∷ Γ) G (‵ (uncut X U R b e n u) ∷ Γ) G
    strip_in t b e n u = let ps : List Ptr = line X U R (block_ptr b e) n in let long : length ps ≡ n = line_length (block_ptr b e) n in
        step (λ s. types.Kit.rewrite t 0 (λ (k : ℕ). ‵ (uncut X U R b e k u)) (sym long) refl $ nothing t $
        fpack t (ps ≡ line X U R (block_ptr b e) (length ps)) (λ _. base.Fml.ftrue) (ap (λ (k : ℕ). line X U R (block_ptr b e) k) (sym long)) $ fjoin t $
        types.Kit.feq_i t Ptr (block_ptr b u.0.at) (block_ptr b u.0.at) refl $ fjoin t $ fpack t (RowDeed × ℕ × List ℕ) (strip_by X U R b e (block_ptr b u.0.at) ps) u $
        use0 𝓛 (‵ (StripData 𝓛 (block_ptr b e) (block_ptr b u.0.at))) (strip_made 𝓛 (block_ptr b e) (block_ptr b u.0.at)) $ fjoin t $ s)

    pub base_in : K → (p : Ptr) (ps : List Ptr) → IsRow X U R p ps → Step K 𝓛 (‵ (Base.own_val (record { at = p; places = ps }) (single (ptr_val p) ∷ [])) ∷ Γ) G Γ G
    base_in t p ps so = step (λ s. nothing t $ fpack t (IsRow X U R p ps) (λ _. base.Fml.ftrue) so $ use0 𝓛 (‵ (BaseData.own_val (p, tt) (single (ptr_val p) ∷ []))) (base_made 𝓛 p) $ fjoin t $ s)

  module _ (Z : RattleType) (g : Ghosts Z.Denot) where
    abbrev pub Rooms : RattleType
    Rooms = rooms.the_row X U R Z g

    abbrev Data : RattleType
    Data = Struct (shape (rooms.the_type X U R Z g))

    module _ {M : Type 1} {𝓤 : Ura M} (𝓛 : Logic 𝓤) where
      rooms_made : (p : Ptr) (n : ℕ) → n < 2 ^ 64 → ent 𝓤 (emp 𝓤) (sem 𝓛 (Data.own_val (p, (n, (tt, tt))) (three (ptr_val p) n ∷ [])))
      rooms_made p n fits = makes_shadow 𝓛 (Data.own_val (p, (n, (tt, tt))) (three (ptr_val p) n ∷ [])) (λ vss. (tt, (tt, ((tt, tt), ((λ uss. (tt, tt)), tt)))))
          ((ptr_val p ∷ [], (vint w64 n ∷ [], (vstruct vnil ∷ [], tt))), (refl, (refl, ((refl, fits), ((tt, (refl, tt)), tt)))))

    rooms_told : (d : Rooms.Denot) (vs : List Val) → Is Data (d.at, (d.len, (tt, tt))) vs → (vs ≡ three (ptr_val d.at) d.len ∷ []) × (d.len < 2 ^ 64)
    rooms_told d vs is = (is.1.0 ∙ (λ i. vstruct (of_list (is.1.1.0 i ++ (is.1.1.1.0.0 i ++ (is.1.1.1.1.0.1.0 i ++ [])))) ∷ []), is.1.1.1.0.1)

    module _ {M : Type 1} {𝓤 : Ura M} {𝓛 : Logic 𝓤} {K : Type 0} {Γ : List (Item 𝓤)} {G : Goal 𝓤 𝓛.H} where
      pub rooms_out : K → (d : Rooms.Denot) (vs : List Val)
          → ((b o : ℕ) → d.at ≡ block_ptr b o → vs ≡ three (vptr b o) d.len ∷ [] → d.len < 2 ^ 64 → Seq K 𝓛 (‵ (rooms_own X U R (g.dealloc_token d.heap) (block_ptr b o) d.len) ∷ Γ) G)
          → Seq K 𝓛 (‵ (Rooms.own_val d vs) ∷ Γ) G
      rooms_out t d vs k =
          fsplit t $ peeks t Data (Is Data) (shows 𝓛 Data) (d.at, (d.len, (tt, tt))) vs (λ is. let told = rooms_told d vs is in drop t $
          in_a_block t d.at (λ s. rooms_own X U R (g.dealloc_token d.heap) s d.len) (id⊢ 𝓤 (base.Logic.never 𝓤)) (λ b o e. k b o e
          (subst (λ (s : Ptr). vs ≡ three (ptr_val s) d.len ∷ []) e told.0) told.1))

      pub rooms_in : K → (b o n : ℕ) (h : Z.Denot) → n < 2 ^ 64
          → Step K 𝓛 (‵ (Rooms.own_val (record { at = block_ptr b o; len = n; by = record {}; heap = h }) (three (vptr b o) n ∷ [])) ∷ Γ) G (‵ (rooms_own X U R (g.dealloc_token h) (block_ptr b o) n) ∷ Γ) G
      rooms_in t b o n h fits = step (λ s. use0 𝓛 (‵ (Data.own_val (block_ptr b o, (n, (tt, tt))) (three (vptr b o) n ∷ []))) (rooms_made 𝓛 (block_ptr b o) n fits) $ fjoin t $ s)
