-- What is known of a row a note of the row's cell knows.
use Rattle.seize_store.proofs.Kit.{vunit, of_opd, unhide, ◌≡◌, ℕ, List, [], ◌∷◌, ◌++◌, refl, sym, subst, proved_at, leaves, Val, vptr, SProp, ent, emp, id⊢, Lft, Share, Fml, ftrue, fsep, flft, sem, ‵, raw, ◌⊛◌, later, ◌$◌, ◌∵◌, !, qed, by, move, keep, drop, split, join, fsplit, fjoin, use0, use1, use2, await, rewrite, suffices, feq_i, returns, enter, alloc_all, pass_all, free_all, look_at, sets, fact, fact_i, tables, yes, RattleType, owns, types_at, plain, RefOf, nothing, heard, Stays, stay_dropped, walk_of, Goes-dropped}
use mir.Syntax.{a_type, dcons, dnil}
use mir.MapTy.{inst_fn}
use prog.Wp.{WpFn}
use denote.Param.{param, bounded}
use base.Logic.{all, all_e, apply∗}
use denote.Triple.Walked.{stay_ref, Goes-ref}
use types.Run.{unit_lit}
use Rattle.std.specs.declared.option.Option.TheVariants.{Some}
use Rattle.once_cell.specs.Once.{noted}
use Rattle.once_cell.proofs.Notes as notes
use Rattle.seize_store.specs.RowTokens.{AreKin, row_name}
use Rattle.seize_store.specs.Kept.{of_kin}
use Rattle.seize_store.specs.contracts.row.Row as row
use Rattle.seize_store.proofs.Tokens.{Known}
use Rattle.seize_store.specs.contracts.row_token.RowToken.tell.{ended, clauses}
use Rattle.seize_store.specs.contracts.row_token.RowToken.tell.Key.{name as #self}
use Rattle.seize_store.proofs.row_token.RowToken.tell.Statement.{statement}
use Rattle.seize_store.proofs.row_token.RowToken.tell.Code as code

pub tell_spec : {M : Type 1} → statement M
tell_spec 𝓤 𝓛 𝓜 𝓡 wired Y W Z LY LW LZ g dg gp dp dx dq met mep glue gluep =
    let H = 𝓛.H in let 𝓣 = tables 𝓤 H 𝓜 𝓡 𝓡.env in let X : RattleType = param 0 Y in let U : RattleType = param 1 W in let R : RattleType = param 2 Z in let En = ended Y W Z g dg gp dp dx dq in let inst = bounded (a_type ∷ a_type ∷ a_type ∷ []) (Y, (W, (Z, tt))) (dcons dg (dcons dp (dcons dx (dcons dq dnil)))) in let fn = inst_fn inst code.function in
    let Rw : RattleType = of_kin (row.the_row X U R g gp) (record { is_of = AreKin }) 0 in let N : RattleType = notes.Note 𝓛 Rw in let c = clauses Y W Z g dg gp dp dx dq 𝓛 𝓜.mem 𝓡.returns in
    let self = RefOf (0 ∷ []) tt (plain (λ _. Known)) (λ _. tt) in
    let hs : Stays En.signature.params En.kept = (stay_dropped self yes, (stay_ref (1 ∷ []) tt (plain (λ _. N)), tt)) in
    proved_at 𝓛 En hs c 𝓜 𝓡 (Goes-dropped 𝓛 5 self yes (λ κs x f. refl), (Goes-ref 𝓛 5 1 tt (plain (λ _. N)), tt)) (#self inst) fn (code.unfolded 𝓤 H 𝓜 𝓡 wired (Y, (W, (Z, tt))) dg dp dx dq) (λ z are.
    let κs = z.0.0 in let qs = z.0.1 in let a = z.0.3 in let Post : Val → SProp 𝓤 = (walk_of 𝓛 En hs c).post z in let Run : List Val → SProp 𝓤 = λ ws. WpFn 𝓤 H 𝓣.C 𝓣.Λ fn ws Post in
    let κ : Lft = κs.1.0 in let q : Share = qs.1.0 in let k = a.0.now in let rb : ℕ = a.0.ref_ptr.0 in let ro : ℕ = a.0.ref_ptr.1 in let m = a.1.0 in let nb : ℕ = m.ref_ptr.0 in let no' : ℕ = m.ref_ptr.1 in let ν : ℕ = m.ghost_name in let n = m.now in
    let At : Type 0 = n.cell ≡ row_name k.store k.row in let others : Fml = fsep (flft κs.1.1.0 qs.1.1.0) (fsep (flft κs.1.1.1.0 qs.1.1.1.0) (fsep (flft κs.1.1.1.1.0 qs.1.1.1.1.0) ftrue)) in
    let n' : N.Denot = record n { known = Some k.chunks } in
    let Shuts = notes.Shuts 𝓛 Rw κ q nb no' ν in let T : Fml = noted Rw n.cell n.known in let K : Fml = noted Rw n.cell (Some k.chunks) in let Vs : List Val = vptr rb ro ∷ vptr nb no' ∷ [] in
    qed 𝓛 (((‵ (flft κs.0 qs.0) ⊛ ‵ (flft κ q) ⊛ ‵ others) ⊛ ‵ (owns (types_at En.signature.params κs) z.0.3 z.0.4)) ∷ raw (fact 𝓤 _) ∷ raw (fact 𝓤 _) ∷ raw (fact 𝓤 _) ∷ raw (fact 𝓤 At) ∷ []) ∵
    move ! (4 ∷ []) $ heard ! At (λ at. keep ! (0 ∷ []) $ split ! $ move ! (1 ∷ []) $ fsplit ! $ fsplit ! $ drop ! $ unhide ! $ fsplit ! $ drop ! $
    -- [what is known; the other parameters; the tokens]
    move ! (1 ∷ []) $ fsplit ! $ fsplit ! $ keep ! (1 ∷ 3 ∷ 4 ∷ []) $ move ! (2 ∷ []) $ split ! $ move ! (1 ∷ []) $ split ! $
    -- [the note's token; others; its own token; the note; what is known]
    move ! (3 ∷ 0 ∷ []) $ suffices ! (Run Vs) (subst (λ (us : List Val). ent 𝓤 (Run Vs) (Run us)) (sym (λ j. are.0.0 j ++ (are.1.0.0 j ++ []))) (id⊢ 𝓤 (Run Vs))) $
    enter ! 𝓣.C 𝓣.Λ fn Vs Post $ alloc_all ! (λ l. pass_all ! refl ((tt, tt), ((tt, tt), tt)) $
    use2 𝓛 (later (‵ T ⊛ raw (all 𝓤 Shuts))) (notes.note_opens 𝓛 Rw κ q nb no' ν n) $ await ! tt $ split ! $
    -- [what the note knew; the way back; others; its own token; what is known]
    move ! (4 ∷ []) $ rewrite ! 0 (λ (γ : ℕ). ‵ (noted Rw γ (Some k.chunks))) (sym at) refl $ move ! (2 ∷ []) $ use1 𝓛 (raw (Shuts n')) (all_e 𝓤 Shuts n') $
    move ! (1 ∷ 0 ∷ []) $ use2 𝓛 (later (‵ (notes.lent 𝓛 Rw κ q nb no' ν n') ⊛ ‵ (flft κ q))) (apply∗ 𝓤 (sem 𝓛 K) _) $ await ! tt $ split ! $
    feq_i ! (List Val) z.0.4.1.0 (vptr nb no' ∷ []) are.1.0.0 $ fjoin ! $ nothing ! $ move ! (1 ∷ 0 ∷ []) $ fjoin ! $ nothing ! $ fjoin ! $
    -- [the parameters; the note's token; what the note knew; others; its own token]
    sets ! (of_opd ! (unit_lit !)) refl (tt, tt) $ feq_i ! (List Val) (vunit ∷ []) (vunit ∷ []) refl $
    move ! (2 ∷ 4 ∷ []) $ join ! $ move ! (4 ∷ 0 ∷ []) $ join ! $ let Told : Type 0 = (n.cell ≡ n.cell) × (Some k.chunks ≡ Some k.chunks) in
    use0 𝓛 (raw (fact 𝓤 Told)) (fact_i 𝓤 Told (emp 𝓤) (refl, refl)) $
    returns ! (look_at ! 0 refl) $ free_all ! refl $ keep ! (1 ∷ 3 ∷ 2 ∷ 0 ∷ []) $ by ! (leaves 𝓛 En hs c z vunit tt (tt, (n', tt)) (tt, (tt, tt))))))
