-- `get_mut` lends the value, and the block follows it.
use Rattle.seize_store.proofs.Kit.{◌≡◌, ℕ, List, [], ◌∷◌, refl, sym, proved, leaves, Val, vptr, SProp, ent, sep, emp, id⊢, Lft, Share, Fml, ftrue, fsep, flft, finv, full_share, named, Ura, Logic, sem, ‵, raw, ◌⊛◌, some, later, at_ret, ◌$◌, ◌∵◌, !, qed, by, move, keep, split, split3, join, group, fsplit, fsplit3, fjoin, fjoin3, fpack, pick, use0, use1, await, rewrite, done, stop, fld, addr, of_opd, first, blocks, exec, returns, enter, alloc_all, pass_all, free_all, look_at, get, through, sets, env, sub, whole, fact, fact_i, tables, no, RattleType, owns, types_at, plain, mut_vals, mut_Tells, block_ptr, nothing, opens, Stays, stay_dropped, walk_of, tail}
use mir.Syntax.{a_type, dcons, dnil}
use mir.MapTy.{inst_fn}
use base.Fml.{GName}
use types.Na.{out}
use types.Part.{look_in}
use types.Run.{hop}
use types.ByLocal.{sets_last}
use denote.Follow.{follows, Part, lends_Part}
use denote.Memory.{mem, cell_at, part_at, part_of}
use denote.Param.{param, bounded}
use denote.RawPtr.{Ptr}
use denote.Ref.{MutBor, MutRef}
use denote.Signature.{mut_ref_to}
use denote.Triple.Walked.{Goes-spent_ref}
use Rattle.seize_store.specs.Body.{room_at, rest}
use Rattle.seize_store.specs.Chunk.{held, Inv}
use Rattle.seize_store.specs.Lends.{block_with}
use Rattle.seize_store.specs.Titled.{title_tag, title_place}
use Rattle.seize_table.specs.declared.labelled.Labelled.{Ghosts}
use Rattle.seize_store.specs.contracts.block.Block as block
use Rattle.seize_store.specs.contracts.row_token.Title as title
use Rattle.seize_store.proofs.Fields.{both, block_out, block_in}
use Rattle.seize_store.specs.contracts.block.Block.get_mut.{ended, clauses}
use Rattle.seize_store.specs.contracts.block.Block.get_mut.Key.{name as #self}
use Rattle.seize_store.proofs.block.Block.get_mut.Statement.{statement}
use Rattle.seize_store.proofs.block.Block.get_mut.Code as code

module _ (X U R : RattleType) (gp : Ghosts U.Denot) (d : (block.the_row X U R gp).Denot) (rb ro b o : ℕ) (t : ℕ × (ℕ × ℕ)) (h : Val) where
  abbrev Row : RattleType
  Row = block.the_row X U R gp

  -- all of the block but its value
  abbrev Besides : Fml
  Besides = fsep (fsep (out t.1.0) (fsep (held X U R b o gp.label (title_tag d.title)) (rest X U R b o))) (fsep (finv (Inv X U R b o gp.label (title_tag d.title) t.0 t.1.0 t.1.1))
      (fsep (title.the_row.own_val d.title (h ∷ [])) (cell_at full_share Row.mir (both (vptr b o) h ∷ []) rb ro)))

  back : {M : Type 1} {𝓤 : Ura M} (𝓛 : Logic 𝓤) → d.at ≡ block_ptr b o → title_place d.title ≡ block_ptr b o → (w : R.Denot)
      → ent 𝓤 (sep 𝓤 (sem 𝓛 ((mem R).own_at w b (room_at X U R o))) (sem 𝓛 Besides)) (sem 𝓛 ((mem Row).own_at (block_with d w) rb ro))
  unfolding part_of
  back 𝓛 e en w = let word : List Val = both (vptr b o) h ∷ [] in
      qed 𝓛 (‵ (part_at R full_share w b (room_at X U R o)) ∷ ‵ Besides ∷ []) ∵ move ! (1 ∷ []) $ fsplit ! $ fsplit ! $ move ! (2 ∷ []) $ fsplit3 ! $
      -- [the invariant; the title; the cell; the right's name; the owner's part with the rest; the value]
      move ! (4 ∷ []) $ fsplit ! $ move ! (6 ∷ 1 ∷ []) $ fjoin ! $ move ! (1 ∷ 0 ∷ []) $ fjoin ! $ move ! (4 ∷ 0 ∷ []) $ fjoin ! $ fjoin ! $ block_in X U R gp ! b o t h d.title w en $
      rewrite ! 0 (λ (p : Ptr). ‵ (Row.own_val (record { at = p; title = d.title; value = w }) word)) (sym e) refl $ move ! (1 ∷ 0 ∷ []) $ fjoin ! $
      fpack ! (List Val) (λ us. fsep (cell_at full_share Row.mir us rb ro) (Row.own_val (block_with d w) us)) word $ done !

pub get_mut_spec : {M : Type 1} → statement M
get_mut_spec 𝓤 𝓛 𝓜 𝓡 wired Y W Z LY LW LZ gp dp met =
    let H = 𝓛.H in let 𝓣 = tables 𝓤 H 𝓜 𝓡 𝓡.env in let X : RattleType = param 0 Y in let U : RattleType = param 1 W in let R : RattleType = param 2 Z in let En = ended Y W Z gp dp in let inst = bounded (a_type ∷ a_type ∷ a_type ∷ []) (Y, (W, (Z, tt))) (dcons dp dnil) in let fn = inst_fn inst code.function in
    let Row : RattleType = block.the_row X U R gp in let c = clauses Y W Z gp dp 𝓛 𝓜.mem 𝓡.returns in
    let hs : Stays En.signature.params En.kept = (stay_dropped (mut_ref_to (0 ∷ []) tt (plain (λ _. Row))) no, tt) in
    proved 𝓛 En hs c 𝓜 𝓡 (Goes-spent_ref 𝓛 4 (0 ∷ []) tt (plain (λ _. Row)), tt) (#self inst) fn (code.unfolded 𝓤 H 𝓜 𝓡 wired (Y, (W, (Z, tt))) dp)
    (λ κs. (mut_vals, tt)) (λ κs. (mut_Tells (named 0) κs.0 Row, tt)) (λ κs qs bounds a gh are.
    let rb : ℕ = a.0.ref_ptr.0 in let ro : ℕ = a.0.ref_ptr.1 in let γ : GName = a.0.ghost_name in let κ : Lft = κs.0 in let q : Share = qs.0 in let d : Row.Denot = a.0.now in let x : Z.Denot = d.value in
    let others : Fml = fsep (flft κs.1.0 qs.1.0) (fsep (flft κs.1.1.0 qs.1.1.0) (fsep (flft κs.1.1.1.0 qs.1.1.1.0) ftrue)) in
    let y : (walk_of 𝓛 En hs c).Ghost = ((κs, qs, bounds, a, (vptr rb ro ∷ [], tt)), gh) in let Post : Val → SProp 𝓤 = (walk_of 𝓛 En hs c).post y in
    qed 𝓛 (((‵ (flft κ q) ⊛ ‵ others) ⊛ ‵ (owns (types_at En.signature.params κs) a y.0.4)) ∷ raw ((c κs a).requires gh) ∷ []) ∵
    split ! $ split ! $ move ! (2 ∷ []) $ fsplit ! $ fsplit3 ! $ keep ! (1 ∷ 2 ∷ 4 ∷ 5 ∷ []) $
    enter ! 𝓣.C 𝓣.Λ fn (vptr rb ro ∷ []) Post $ alloc_all ! (λ l. pass_all ! refl ((tt, tt), tt) $ let Ev = env fn.locals l in
    opens ! tt Row {h = d} rb ro (λ vs. move ! (1 ∷ []) $ block_out X U R gp ! d vs (λ b o t h e en ws fits.
    rewrite ! 2 (λ (us : List Val). ‵ (cell_at full_share Row.mir us rb ro)) ws refl $ fsplit ! $ fsplit3 ! $ move ! (2 ∷ []) $ fsplit ! $
    -- [the value; the rest; the right's name; the owner's part; the invariant; the title; the cell; the open borrow, in three entries; others]
    let at : ℕ = room_at X U R o in let there : Val = vptr b at in let Rest : SProp 𝓤 = sem 𝓛 (Besides X U R gp d rb ro b o t h) in let way = back X U R gp d rb ro b o t h 𝓛 e en in let had = Row.coded.code d in
    first ! $ blocks ! $ sets_last ! (addr ! (through ! refl (fld ! refl (hop ! (look_in ! 6 (sub ! 0 refl (whole !))) (fld ! refl (stop !)))))) refl (tt, tt) $
    exec ! 𝓣.C 𝓣.Λ Ev (tail fn.body) (at_ret Ev Post) $ sets ! (of_opd ! (get ! refl)) refl (tt, tt) $
    move ! (3 ∷ 1 ∷ []) $ fjoin ! $ move ! (2 ∷ 0 ∷ []) $ fjoin ! $ move ! (2 ∷ 3 ∷ 4 ∷ []) $ fjoin3 ! $ move ! (1 ∷ 0 ∷ []) $ fjoin ! $ move ! (2 ∷ 3 ∷ 4 ∷ 1 ∷ 0 ∷ []) $ group ! 5 $
    use1 𝓛 (later (some (λ (δ : GName). raw (Part 𝓛 Row R (block_with d) (named 0) κ q rb ro b at γ Rest way x δ)))) (lends_Part 𝓛 Row R (block_with d) (named 0) κ q rb ro b at γ Rest way had had x) $ await ! tt $ pick ! (λ δ.
    let r : MutBor Z.Denot = record { ref_ptr = (b, at); ghost_name = δ; now = x } in
    use1 𝓛 (‵ ((MutRef (named 0) κ R).own_val r (there ∷ [])) ⊛ ‵ (flft κ q) ⊛ ‵ (follows Row R γ δ (block_with d))) (id⊢ 𝓤 _) $ split3 ! $
    move ! (1 ∷ 3 ∷ []) $ join ! $ use0 𝓛 (raw (fact 𝓤 (x ≡ x))) (fact_i 𝓤 (x ≡ x) (emp 𝓤) refl) $ move ! (3 ∷ 0 ∷ []) $ join ! $ nothing ! $ nothing ! $ fjoin ! $
    -- [what is left of the parameter; the ensures; the tokens; the result]
    returns ! (look_at ! 0 refl) $ free_all ! refl $ keep ! (2 ∷ 0 ∷ 3 ∷ 1 ∷ []) $ by ! (leaves 𝓛 En hs c y there r (tt, tt) (tt, tt)))))))
