-- `take` asks the allocator for the room of a row.
use Rattle.seize_store.proofs.Kit.{◌≡◌, ℕ, ◌^◌, ◌<◌, [], ◌∷◌, true, false, refl, sym, ap, subst, arith, lit<, w64, proved, leaves, fm, Val, vint, vptr, vstruct, vcons, vnil, SProp, emp, Lft, Fml, ftrue, fsep, flft, ‵, raw, ◌⊛◌, later, at_ret, ◌$◌, ◌∵◌, !, qed, by, move, keep, use0, use1, use2, split, join, fsplit, fjoin, await, stop, fld, lit, of_opd, no_more, and_then, first, exec, returns, enter, alloc_all, pass_all, free_all, look_at, get, get_in, sets, lands_as, env, agg, whole, fact, fact_i, tables, yes, RattleType, owns, types_at, plain, RefOf, shr_vals, shr_Tells, uint_vals, uint_Tells, block_ptr, nothing, heard, Stays, stay_dropped, walk_of, Goes-dropped}
use Rattle.std.proofs.Common.{◌*◌}
use mir.Syntax.{Body, Ty, a_type, dcons, dnil, named}
use mir.Val.{WT}
use mir.MapTy.{inst_fn}
use base.Fml.{Incl-trans}
use contract.BorrowLft.{◌⊑◌}
use prog.Memory.{align, capped}
use prog.Capped.{capped_fits}
use prog.Wp.{Wp, after_seq, at_return}
use types.Kit.{any_q}
use types.Run.{bin, size_word, align_word, switches_on}
use types.ByLocal.{get_tag, sets_last, is}
use types.Match.{live, vrt, in_variant}
use denote.Builtin.{usize}
use denote.Param.{param, bounded}
use denote.Shadow.{makes_shadow}
use denote.Triple.Call.{calls_at}
use Rattle.core.proofs.alloc.Calls.{Al as Handle, Answer-typed, Takes, at_takes, Answered, Takes-goes, Takes-gives, answers}
use Rattle.core.proofs.alloc.Shapes.{after, front, arm_body}
use Rattle.core.proofs.once.Made.{ok_of, err_of}
use Rattle.core.specs.contracts.alloc.AllocError as refusal
use Rattle.core.specs.contracts.result.Result as Res
use Rattle.core.specs.declared.result.Result.TheVariants.{Ok, Err}
use Rattle.seize_store.specs.Body.{plain_ty, row_ty, stride}
use Rattle.seize_store.specs.Row.{Fits}
use Rattle.seize_store.proofs.Pieces.{Rooms, rooms_in, row_align, row_size, three, uncapped}
use Rattle.seize_store.specs.contracts.strip.Rooms.take.{ended, clauses}
use Rattle.seize_store.specs.contracts.strip.Rooms.take.Key.{name as #self}
use Rattle.seize_store.proofs.strip.Rooms.take.Statement.{statement}
use Rattle.seize_store.proofs.strip.Rooms.take.Code as code

pub take_spec : {M : Type 1} → statement M
take_spec 𝓤 𝓛 𝓜 𝓡 wired Y V W Al LY LV LW LA ga da dd met _ =
    let H = 𝓛.H in let 𝓣 = tables 𝓤 H 𝓜 𝓡 𝓡.env in let X : RattleType = param 0 Y in let U : RattleType = param 1 V in let R : RattleType = param 2 W in let Z : RattleType = param 3 Al in let Ro : RattleType = Rooms X U R Z ga in let s : ℕ = stride X U R in
    let En = ended Y V W Al ga da dd in let c = clauses Y V W Al ga da dd 𝓛 𝓜.mem 𝓡.returns in let inst = bounded (a_type ∷ a_type ∷ a_type ∷ a_type ∷ []) (Y, (V, (W, (Al, tt)))) (dcons da (dcons dd dnil)) in let fn = inst_fn inst code.function in
    let Hd : Handle = record { row = Al; laws = LA; g = ga; d = da; drops = dd } in let al : ℕ = capped (align (plain_ty X U R)) in let handle = RefOf (0 ∷ []) tt (plain (λ _. Z)) (λ _. tt) in
    let hs : Stays En.signature.params En.kept = (stay_dropped handle yes, (stay_dropped (plain (λ _. usize)) yes, tt)) in let Out : RattleType = Res.the_row Ro refusal.the_row in
    proved 𝓛 En hs c 𝓜 𝓡 (Goes-dropped 𝓛 5 handle yes (λ κs x f. refl), (Goes-dropped 𝓛 5 (plain (λ _. usize)) yes (λ κs x f. refl), tt)) (#self inst) fn (code.unfolded 𝓤 H 𝓜 𝓡 wired (Y, (V, (W, (Al, tt)))) da dd)
    (λ κs. (shr_vals, (uint_vals w64, tt))) (λ κs. (shr_Tells (named 0) κs.0 Z, (uint_Tells w64, tt))) (λ κs qs bounds a gh are.
    let hp : ℕ × ℕ = a.0.ref_ptr in let heap : Al.Denot = a.0.now in let n : ℕ = a.1.0 in let τ : Ty = row_ty X U R n in let size : ℕ = n * s in let κ : Lft = κs.0 in
    let y : (walk_of 𝓛 En hs c).Ghost = ((κs, qs, bounds, a, (vptr hp.0 hp.1 ∷ [], (vint w64 n ∷ [], tt))), gh) in let Post : Val → SProp 𝓤 = (walk_of 𝓛 En hs c).post y in
    let others : Fml = fsep (flft κs.1.0 qs.1.0) (fsep (flft κs.1.1.0 qs.1.1.0) (fsep (flft κs.1.1.1.0 qs.1.1.1.0) (fsep (flft κs.1.1.1.1.0 qs.1.1.1.1.0) ftrue))) in let Inside : Type 0 = κs.1.1.1.1.0 ⊑ Al.lives in
    qed 𝓛 (((‵ (flft κ qs.0) ⊛ ‵ others) ⊛ ‵ (owns (types_at En.signature.params κs) a y.0.4)) ∷ raw (fact 𝓤 _) ∷ raw (fact 𝓤 _) ∷ raw (fact 𝓤 _) ∷ raw (fact 𝓤 Inside) ∷ raw (fact 𝓤 (Fits X U R n)) ∷ []) ∵
    keep ! (4 ∷ 5 ∷ 0 ∷ []) $ heard ! Inside (λ inside. heard ! (Fits X U R n) (λ fits. let small : size < 2 ^ 64 = (let x = fits in omega arith) in split ! $ split ! $ move ! (2 ∷ []) $ fsplit ! $ fsplit ! $ keep ! (1 ∷ 3 ∷ 4 ∷ []) $
    enter ! 𝓣.C 𝓣.Λ fn (vptr hp.0 hp.1 ∷ vint w64 n ∷ []) Post $ alloc_all ! (λ l. pass_all ! refl ((tt, tt), ((tt, record { fits = are.1.0.1 }), tt)) $ let Ev = env fn.locals l in let both : Body = front (after 2 fn.body) in
    let Then = any_q (after_seq 𝓤 H (Wp 𝓤 H 𝓣.C 𝓣.Λ Ev (after 3 fn.body) (at_return 𝓤 H Ev Post)) (at_return 𝓤 H Ev Post)) in let Asked = Takes Hd 𝓛 𝓜.mem 𝓡.returns in let w : Asked.Ghost = at_takes Hd 𝓛 𝓜.mem 𝓡.returns κ qs.0 hp heap size al τ in
    sets ! (is ! (bin ! (get ! refl) (size_word !) (record { fits = subst (λ (j : ℕ). j < 2 ^ 64) (sym (uncapped n s small)) small })) (ap (vint w64) (uncapped n s small))) refl (tt, record { fits = small }) $
    use2 𝓛 (raw (Asked.pre w)) (Takes-goes Hd 𝓛 𝓜.mem 𝓡.returns κ qs.0 hp heap (Incl-trans bounds.0 inside) size al τ (row_size X U R n small) (row_align X U R n) small (capped_fits (align (plain_ty X U R)))) $
    calls_at ! (fm 𝓛 𝓜 𝓡) Asked (met.allocate dd) w (and_then ! (get ! refl) (and_then ! (get ! refl) (and_then ! (align_word !) (no_more !)))) (λ u.
    use1 𝓛 (later (raw (Answered Hd 𝓛 𝓜.mem 𝓡.returns heap τ u) ⊛ ‵ (flft κ qs.0))) (Takes-gives Hd 𝓛 𝓜.mem 𝓡.returns κ qs.0 hp heap size al τ u) $ await ! tt $ split ! $ move ! (1 ∷ 2 ∷ []) $ join ! $ move ! (1 ∷ []) $
    answers Hd ! 𝓜.mem 𝓡.returns heap τ u
    (λ b o e. let r : Ro.Denot = record { at = block_ptr b o; len = n; by = record {}; heap = heap } in let k : Val = three (vptr b o) n in let val : Val = live 0 (vcons k vnil) in
    let whole3 : WT k = (tt, (record { fits = are.1.0.1 }, (tt, tt))) in let good : WT val = (record { fits = lit< tt }, (whole3, tt)) in let Told : Type 0 = (n ≡ n) × (heap ≡ heap) in
    fjoin ! $ rooms_in X U R Z ga ! b o n heap are.1.0.1 $
    lands_as ! e refl (Answer-typed true b o) $ first ! $ switches_on ! (get_tag ! (vrt ! refl (fld ! refl (stop !))) (whole !)) $ exec ! 𝓣.C 𝓣.Λ Ev (arm_body 0 both) Then $
    sets ! (of_opd ! (get_in ! (vrt ! refl (fld ! refl (stop !))) (in_variant ! 0 0 refl refl (whole !)))) refl (tt, tt) $ sets ! (of_opd ! (get ! refl)) refl (tt, tt) $ sets ! (agg ! (no_more !)) refl (tt, tt) $
    sets ! (agg ! (and_then ! (get ! refl) (and_then ! (get ! refl) (and_then ! (get ! refl) (no_more !))))) refl (tt, whole3) $
    sets_last ! (agg ! (and_then ! (lit ! tt) (and_then ! (get ! refl) (no_more !)))) refl (tt, good) $ exec ! 𝓣.C 𝓣.Λ Ev (after 3 fn.body) (at_ret Ev Post) $ sets ! (of_opd ! (get ! refl)) refl (tt, good) $
    use1 𝓛 (‵ (Out.own_val (Ok r) (val ∷ []))) (ok_of 𝓛 Ro refusal.the_row r k) $ use0 𝓛 (raw (fact 𝓤 Told)) (fact_i 𝓤 Told (emp 𝓤) (refl, refl)) $ nothing ! $ nothing ! $ fjoin ! $ nothing ! $ fjoin ! $
    returns ! (look_at ! 0 refl) $ free_all ! refl $ keep ! (3 ∷ 0 ∷ 2 ∷ 1 ∷ []) $ by ! (leaves 𝓛 En hs c y val (Ok r) (tt, (tt, tt)) (tt, (tt, tt))))
    (λ e. let val : Val = live 1 (vcons (vstruct vnil) vnil) in let good : WT val = (record { fits = lit< tt }, (tt, tt)) in let F : Fml = refusal.the_row.own_val (record {}) (vstruct vnil ∷ []) in
    lands_as ! e refl (Answer-typed false 0 0) $ first ! $ switches_on ! (get_tag ! (vrt ! refl (fld ! refl (stop !))) (whole !)) $ exec ! 𝓣.C 𝓣.Λ Ev (arm_body 1 both) Then $
    sets ! (of_opd ! (get_in ! (vrt ! refl (fld ! refl (stop !))) (in_variant ! 1 0 refl refl (whole !)))) refl (tt, tt) $
    sets_last ! (agg ! (and_then ! (lit ! tt) (and_then ! (get ! refl) (no_more !)))) refl (tt, good) $ exec ! 𝓣.C 𝓣.Λ Ev (after 3 fn.body) (at_ret Ev Post) $ sets ! (of_opd ! (get ! refl)) refl (tt, good) $
    use0 𝓛 (‵ F) (makes_shadow 𝓛 F (λ uss. (tt, tt)) (tt, (refl, tt))) $ use1 𝓛 (‵ (Out.own_val (Err (record {})) (val ∷ []))) (err_of 𝓛 Ro refusal.the_row (record {}) (vstruct vnil)) $
    use0 𝓛 (raw (fact 𝓤 (Unit {0}))) (fact_i 𝓤 (Unit {0}) (emp 𝓤) tt) $ nothing ! $ nothing ! $ fjoin ! $ nothing ! $ fjoin ! $
    returns ! (look_at ! 0 refl) $ free_all ! refl $ keep ! (3 ∷ 0 ∷ 2 ∷ 1 ∷ []) $ by ! (leaves 𝓛 En hs c y val (Err (record {})) (tt, (tt, tt)) (tt, (tt, tt)))))))))
