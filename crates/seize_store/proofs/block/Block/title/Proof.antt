-- `title` lends the title's field.
use Rattle.seize_store.proofs.Kit.{◌≡◌, ℕ, ◌+◌, List, [], ◌∷◌, refl, proved, leaves, Val, vptr, SProp, emp, Lft, Fml, ftrue, fsep, flft, ‵, raw, ◌⊛◌, ◌$◌, ◌∵◌, !, qed, by, move, keep, split, join, fsplit, fjoin, use0, use1, feq_i, stop, fld, addr, returns, enter, alloc_all, pass_all, free_all, look_at, through, sets, env, fact, fact_i, tables, yes, RattleType, owns, types_at, plain, RefOf, shr_vals, shr_Tells, nothing, Stays, stay_dropped, walk_of, Goes-dropped}
use mir.Syntax.{a_type, dcons, dnil, named}
use mir.MapTy.{inst_fn}
use base.Fml.{fhide}
use denote.Memory.{hidden_shr}
use denote.Param.{param, bounded}
use denote.RawPtr.{Ptr}
use denote.Struct.Lending.{lent_out}
use Rattle.seize_store.specs.Block.{block_shares}
use Rattle.seize_store.specs.Titled.{title_tag}
use Rattle.seize_store.specs.contracts.block.Block as block
use Rattle.seize_store.specs.contracts.row_token.Title as title
use Rattle.seize_store.proofs.Fielded as seen
use Rattle.seize_store.specs.contracts.block.Block.title.{ended, clauses}
use Rattle.seize_store.specs.contracts.block.Block.title.Key.{name as #self}
use Rattle.seize_store.proofs.block.Block.title.Statement.{statement}
use Rattle.seize_store.proofs.block.Block.title.Code as code

pub title_spec : {M : Type 1} → statement M
title_spec 𝓤 𝓛 𝓜 𝓡 wired Y W Z LY LW LZ gp dp met =
    let H = 𝓛.H in let 𝓣 = tables 𝓤 H 𝓜 𝓡 𝓡.env in let X : RattleType = param 0 Y in let U : RattleType = param 1 W in let R : RattleType = param 2 Z in let En = ended Y W Z gp dp in let inst = bounded (a_type ∷ a_type ∷ a_type ∷ []) (Y, (W, (Z, tt))) (dcons dp dnil) in let fn = inst_fn inst code.function in
    let Row : RattleType = block.the_row X U R gp in let D : RattleType = seen.Words X U R gp in let c = clauses Y W Z gp dp 𝓛 𝓜.mem 𝓡.returns in
    let self = RefOf (0 ∷ []) tt (plain (λ _. Row)) (λ _. tt) in let hs : Stays En.signature.params En.kept = (stay_dropped self yes, tt) in
    proved 𝓛 En hs c 𝓜 𝓡 (Goes-dropped 𝓛 4 self yes (λ κs x f. refl), tt) (#self inst) fn (code.unfolded 𝓤 H 𝓜 𝓡 wired (Y, (W, (Z, tt))) dp)
    (λ κs. (shr_vals, tt)) (λ κs. (shr_Tells (named 0) κs.0 Row, tt)) (λ κs qs bounds a gh are.
    let rb : ℕ = a.0.ref_ptr.0 in let ro : ℕ = a.0.ref_ptr.1 in let κ : Lft = κs.0 in let d : Row.Denot = a.0.now in let p : Ptr = d.at in let n = d.title in let x : Z.Denot = d.value in let others : Fml = fsep (flft κs.1.0 qs.1.0) (fsep (flft κs.1.1.0 qs.1.1.0) (fsep (flft κs.1.1.1.0 qs.1.1.1.0) ftrue)) in
    let y : (walk_of 𝓛 En hs c).Ghost = ((κs, qs, bounds, a, (vptr rb ro ∷ [], tt)), gh) in let Post : Val → SProp 𝓤 = (walk_of 𝓛 En hs c).post y in
    qed 𝓛 (((‵ (flft κ qs.0) ⊛ ‵ others) ⊛ ‵ (owns (types_at En.signature.params κs) a y.0.4)) ∷ raw ((c κs a).requires gh) ∷ []) ∵
    split ! $ split ! $ move ! (2 ∷ []) $ fsplit ! $ fsplit ! $ keep ! (1 ∷ 3 ∷ 4 ∷ []) $
    enter ! 𝓣.C 𝓣.Λ fn (vptr rb ro ∷ []) Post $ alloc_all ! (λ l. pass_all ! refl ((tt, tt), tt) $ let Ev = env fn.locals l in
    use1 𝓛 (‵ (hidden_shr D κ (p, (title.the_field.into n, tt)) rb ro) ⊛ ‵ (fhide (block_shares X U R gp.label (title_tag n) p x κ))) (lent_out 𝓛 (block.struct X U R gp) (block.the_codes Y.Denot W.Denot Z.Denot X.coded U.coded R.coded title.the_row.coded) (block.the_heap X U R gp) (block.the_lent X U R gp) κ d rb ro) $
    split ! $ use1 𝓛 (‵ (hidden_shr title.the_row κ n rb (ro + 8)) ⊛ ‵ (hidden_shr D κ (p, (title.the_field.into n, tt)) rb ro)) (seen.shows_title X U R gp 𝓛 κ rb ro p n) $ split ! $ let there : Val = vptr rb (ro + 8) in
    -- [what a `&` to the title holds; the fields; the value's; the token; others]
    sets ! (addr ! (through ! refl (fld ! refl (stop !)))) refl (tt, tt) $ move ! (3 ∷ 4 ∷ []) $ join ! $
    move ! (1 ∷ []) $ feq_i ! (List Val) (there ∷ []) (there ∷ []) refl $ fjoin ! $ use0 𝓛 (raw (fact 𝓤 (n ≡ n))) (fact_i 𝓤 (n ≡ n) (emp 𝓤) refl) $ nothing ! $ nothing ! $ fjoin ! $
    returns ! (look_at ! 0 refl) $ free_all ! refl $ keep ! (3 ∷ 0 ∷ 2 ∷ 1 ∷ []) $ by ! (leaves 𝓛 En hs c y there (record { ref_ptr = (rb, ro + 8); now = n }) (tt, tt) (tt, tt))))
