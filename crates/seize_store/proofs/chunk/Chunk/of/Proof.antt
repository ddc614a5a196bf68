-- `of` writes the word and the header, and makes the invariant.
use Rattle.seize_store.proofs.Kit.{◌≡◌, ℕ, List, [], ◌∷◌, ◌++◌, refl, sym, subst, lit<, proved_at, leaves, Val, vptr, SProp, ent, emp, id⊢, ftrue, flft, finv, full_share, ‵, raw, ◌⊛◌, some, later, at_ret, ◌$◌, ◌∵◌, !, qed, by, move, keep, drop, split, fsplit, fsplit3, fjoin, fpack, pick, use0, use1, use2, use3, await, rewrite, suffices, stop, fld, addr, lit, of_opd, no_more, and_then, first, blocks, exec, returns, enter, alloc_all, pass_all, free_all, look_at, get, get_in, through, sets, env, agg, sub, whole, fact, fact_i, tables, yes, no, RattleType, owns, types_at, plain, block_ptr, nothing, heard, Stays, stay_dropped, walk_of, Goes-dropped}
use mir.Syntax.{a_type, dcons, dnil}
use mir.MapTy.{inst_fn}
use prog.Wp.{WpFn}
use denote.Param.{param, bounded, layout}
use denote.RawPtr.{Ptr}
use Rattle.core.proofs.alloc.Shapes.{after}
use Rattle.seize_store.specs.Body.{header_at, owner_at}
use Rattle.seize_store.specs.Chunk.{Inv}
use Rattle.seize_store.specs.contracts.chunk.Chunk as chunk
use Rattle.seize_store.proofs.Steps as steps
use Rattle.seize_store.proofs.Fields.{single, single_good}
use base.Fml.{froom}
use borrow.Table.OneValue.{part_in}
use denote.Memory.{part_at}
use types.Run.{init, assigns, assigns_last}
use Rattle.core.proofs.cell.Inside.{one}
use denote.Param.Laws.{param_laws}
use Rattle.seize_content.specs.Contents.{ticket_owns}
use Rattle.seize_content.specs.Stages.{Stage, held as unlent}
use Rattle.seize_content.specs.contracts.ticket.Ticket as ticket
use Rattle.seize_content.proofs.Fields.{token}
use Rattle.seize_content.proofs.Tokens.{ticket_tells}
use Rattle.seize_table.specs.Pairs.{left_of, pair, right_of}
use Rattle.seize_table.proofs.Pairs.{left_pair, right_pair}
use Rattle.seize_store.specs.Chunk.{home, labelled}
use Rattle.seize_store.proofs.Fields.{chunk_in}
use Rattle.seize_store.proofs.Pieces.{Piece, piece_out}
use Rattle.seize_store.specs.contracts.chunk.Chunk.of.{ended, clauses}
use Rattle.seize_store.specs.contracts.chunk.Chunk.of.Key.{name as #self}
use Rattle.seize_store.proofs.chunk.Chunk.of.Statement.{statement}
use Rattle.seize_store.proofs.chunk.Chunk.of.Code as code

pub of_spec : {M : Type 1} → statement M
of_spec 𝓤 𝓛 𝓜 𝓡 wired Y W Z LY LW LZ gp dp met =
    let H = 𝓛.H in let 𝓣 = tables 𝓤 H 𝓜 𝓡 𝓡.env in let X : RattleType = param 0 Y in let U : RattleType = param 1 W in let R : RattleType = param 2 Z in let En = ended Y W Z gp dp in let inst = bounded (a_type ∷ a_type ∷ a_type ∷ []) (Y, (W, (Z, tt))) (dcons dp dnil) in let fn = inst_fn inst code.function in
    let V : RattleType = Piece X U R in let C : RattleType = chunk.the_row X U R gp in let c = clauses Y W Z gp dp 𝓛 𝓜.mem 𝓡.returns in let T = layout Y in let S = layout W in let K : RattleType = ticket.the_row in
    let hs : Stays En.signature.params En.kept = (stay_dropped (plain (λ _. V)) no, (stay_dropped (plain (λ _. X)) no, (stay_dropped (plain (λ _. U)) no, (stay_dropped (plain (λ _. K)) yes, tt)))) in
    proved_at 𝓛 En hs c 𝓜 𝓡 (Goes-dropped 𝓛 3 (plain (λ _. V)) no (λ κs x f. refl), (Goes-dropped 𝓛 3 (plain (λ _. X)) no (λ κs x f. refl), (Goes-dropped 𝓛 3 (plain (λ _. U)) no (λ κs x f. refl), (Goes-dropped 𝓛 3 (plain (λ _. K)) yes (λ κs x f. refl), tt)))) (#self inst) fn (code.unfolded 𝓤 H 𝓜 𝓡 wired (Y, (W, (Z, tt))) dp) (λ z are.
    let κs = z.0.0 in let qs = z.0.1 in let d = z.0.3.0 in let x : Y.Denot = z.0.3.1.0 in let u : W.Denot = z.0.3.1.1.0 in let t : K.Denot = z.0.3.1.1.1.0 in let k : ℕ = pair (gp.label u) t.name in let Asked : Type 0 = t.says ≡ unlent in let et = ticket_tells t z.0.4.1.1.1.0 are.1.1.1.0 in let Post : Val → SProp 𝓤 = (walk_of 𝓛 En hs c).post z in let Run : List Val → SProp 𝓤 = λ ws. WpFn 𝓤 H 𝓣.C 𝓣.Λ fn ws Post in
    let toks = ‵ (flft κs.0 qs.0) ⊛ ‵ (flft κs.1.0 qs.1.0) ⊛ ‵ (flft κs.1.1.0 qs.1.1.0) ⊛ ‵ ftrue in let got = one T z.0.4.1.0 (((param_laws 0 Y LY).lawful 𝓛).typed x z.0.4.1.0 are.1.0) in let v : Val = got.0 in
    let got' = one S z.0.4.1.1.0 (((param_laws 1 W LW).lawful 𝓛).typed u z.0.4.1.1.0 are.1.1.0) in let v' : Val = got'.0 in
    qed 𝓛 ((toks ⊛ ‵ (owns (types_at En.signature.params κs) z.0.3 z.0.4)) ∷ raw (fact 𝓤 _) ∷ raw (fact 𝓤 _) ∷ raw (fact 𝓤 _) ∷ raw (fact 𝓤 Asked) ∷ []) ∵ move ! (4 ∷ []) $ heard ! Asked (λ asked. keep ! (0 ∷ []) $ split ! $ move ! (1 ∷ []) $ fsplit ! $ piece_out X U R ! d z.0.4.0 (λ b o e ws. move ! (1 ∷ []) $ fsplit ! $
    rewrite ! 0 (λ (vs : List Val). ‵ (X.own_val x vs)) got.1 refl $ move ! (1 ∷ []) $ fsplit ! $ rewrite ! 0 (λ (vs : List Val). ‵ (U.own_val u vs)) got'.1 refl $
    move ! (1 ∷ []) $ fsplit ! $ fsplit ! $ drop ! $ rewrite ! 0 (λ (s : Stage). ‵ (ticket_owns t.name s)) asked refl $ rewrite ! 0 (λ (γ : ℕ). ‵ (ticket_owns γ unlent)) (sym (right_pair (gp.label u) t.name)) refl $
    -- [the ticket; nothing; the part; the header; the memory; the tokens]
    move ! (4 ∷ 2 ∷ 1 ∷ 3 ∷ 5 ∷ []) $ fsplit ! $ move ! (1 ∷ []) $ fsplit ! $ move ! (1 ∷ []) $ fsplit3 ! $ move ! (2 ∷ []) $ fsplit ! $ move ! (2 ∷ []) $
    let at : ℕ = header_at X U R o in let to : ℕ = owner_at X U R o in use1 𝓛 (‵ (froom T b at)) (𝓛.laws.raw-room T b at) $ move ! (4 ∷ []) $ use1 𝓛 (‵ (froom S b to)) (𝓛.laws.raw-room S b to) $
    move ! (4 ∷ 2 ∷ []) $ fjoin ! $ move ! (2 ∷ 4 ∷ 1 ∷ 0 ∷ 3 ∷ 7 ∷ 5 ∷ []) $
    -- [the header's room; the word's room; the part's room; the content's room with the rest; the dues; the header; the part; ..]
    let w : Val = single (vptr b o) in let p : Ptr = block_ptr b o in let Vs : List Val = w ∷ v ∷ v' ∷ token ∷ [] in
    suffices ! (Run Vs) (subst (λ (us : List Val). ent 𝓤 (Run Vs) (Run us)) (sym (λ i. ws i ++ (got.1 i ++ (got'.1 i ++ (et i ++ []))))) (id⊢ 𝓤 (Run Vs))) $
    enter ! 𝓣.C 𝓣.Λ fn Vs Post $ alloc_all ! (λ l. pass_all ! refl (single_good b o, (got.2, (got'.2, ((tt, (tt, tt)), tt)))) $ let Ev = env fn.locals l in
    sets ! (of_opd ! (get_in ! (fld ! refl (stop !)) (sub ! 0 refl (whole !)))) refl (tt, tt) $ first ! $ blocks ! $ sets ! (addr ! (through ! refl (fld ! refl (stop !)))) refl (tt, tt) $
    assigns ! (of_opd ! (lit ! tt)) (through ! refl (stop !)) (init ! 1 refl (tt, record { fits = lit< tt })) $ sets ! (addr ! (through ! refl (fld ! refl (stop !)))) refl (tt, tt) $ sets ! (of_opd ! (get ! refl)) refl got.2 $
    assigns ! (of_opd ! (get ! refl)) (through ! refl (stop !)) (init ! 0 refl got.2) $
    sets ! (addr ! (through ! refl (fld ! refl (stop !)))) refl (tt, tt) $ sets ! (of_opd ! (get ! refl)) refl got'.2 $
    assigns_last ! (of_opd ! (get ! refl)) (through ! refl (stop !)) (init ! 2 refl got'.2) $ exec ! 𝓣.C 𝓣.Λ Ev (after 2 fn.body) (at_ret Ev Post) $ sets ! (agg ! (and_then ! (get ! refl) (no_more !))) refl (single_good b o) $
    move ! (0 ∷ 5 ∷ []) $ use2 𝓛 (‵ (part_at X full_share x b at)) (part_in 𝓛 X refl full_share x b at v) $ move ! (2 ∷ 5 ∷ []) $ use2 𝓛 (‵ (part_at U full_share u b to)) (part_in 𝓛 U refl full_share u b to v') $
    move ! (0 ∷ 7 ∷ []) $ fjoin ! $ nothing ! $ fpack ! (gp.label u ≡ left_of k) (λ _. ftrue) (sym (left_pair (gp.label u) t.name)) $ fjoin ! $ fpack ! U.Denot (labelled X U R b o gp.label k) u $ move ! (0 ∷ 3 ∷ []) $ fjoin ! $ move ! (2 ∷ 0 ∷ 3 ∷ []) $
    -- [the word; the part, the content's room and the rest; the dues; the header; ..]
    use3 𝓛 (later (some (λ (n : ℕ × (ℕ × ℕ)). ‵ (home X U R b o gp.label k n.0 n.1.0 n.1.1) ⊛ ‵ (finv (Inv X U R b o gp.label k n.0 n.1.0 n.1.1))))) (steps.begins 𝓛 X U R b o gp.label k) $ await ! tt $ pick ! (λ n. split ! $ fjoin ! $
    move ! (1 ∷ 0 ∷ []) $ fjoin ! $ let r : C.Denot = record { at = p; life = n.0; out = n.1.0; home = n.1.1; tag = k; header = x } in chunk_in X U R gp ! b o k n.0 n.1.0 n.1.1 x $
    let Told : Type 0 = (p ≡ d.at) × (x ≡ x) × ((left_of k ≡ gp.label u) × (right_of k ≡ t.name)) in
    use0 𝓛 (raw (fact 𝓤 Told)) (fact_i 𝓤 Told (emp 𝓤) (sym e, refl, (left_pair (gp.label u) t.name, right_pair (gp.label u) t.name))) $ nothing ! $ nothing ! $ fjoin ! $ nothing ! $ fjoin ! $ nothing ! $ fjoin ! $ nothing ! $ fjoin ! $
    returns ! (look_at ! 0 refl) $ free_all ! refl $ keep ! (4 ∷ 0 ∷ 2 ∷ 1 ∷ []) $ by ! (leaves 𝓛 En hs c z (single (vptr b o)) r (tt, (tt, (tt, (tt, tt)))) (tt, (tt, (tt, (tt, tt))))))))))
