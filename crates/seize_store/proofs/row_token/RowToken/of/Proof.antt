-- What a note knows of a row, without the row's type.
use Rattle.seize_store.proofs.Kit.{◌≡◌, ℕ, List, [], ◌∷◌, ◌++◌, refl, sym, subst, w64, proved_at, leaves, Val, vint, vptr, SProp, ent, emp, id⊢, Lft, Share, Fml, ftrue, fsep, flft, sem, ‵, raw, ◌⊛◌, later, ◌$◌, ◌∵◌, !, qed, by, move, keep, drop, split, join, fsplit, fjoin, use0, use1, use2, await, rewrite, suffices, feq_i, no_more, and_then, returns, enter, alloc_all, pass_all, free_all, look_at, get, sets, agg, fact, fact_i, tables, yes, RattleType, owns, types_at, plain, RefOf, nothing, heard, Stays, stay_dropped, walk_of, Goes-dropped}
use mir.Syntax.{a_type, dcons, dnil}
use mir.MapTy.{inst_fn}
use prog.Wp.{WpFn}
use denote.Param.{param, bounded}
use denote.RawPtr.{Ptr}
use base.Logic.{all, all_e, apply∗}
use denote.Triple.Walked.{stay_ref, Goes-ref}
use denote.Builtin.{usize}
use Rattle.std.specs.declared.option.Option.{Option}
use Rattle.std.specs.declared.option.Option.TheVariants.{Some}
use Rattle.once_cell.specs.Once.{noted}
use Rattle.once_cell.proofs.Notes as notes
use Rattle.seize_store.specs.Titled.{ShowsRow, names_of_rows}
use Rattle.seize_store.specs.RowTokens.{AreKin, IsRowIn, row_name, known_row}
use Rattle.seize_store.specs.Kept.{of_kin}
use Rattle.seize_store.specs.contracts.row.Row as row
use Rattle.seize_store.specs.contracts.row.Rows as rows
use Rattle.seize_store.proofs.Tokens.{Known, Data as Blank, token, known_made}
use Rattle.seize_store.specs.contracts.row_token.RowToken.of.{ended, clauses}
use Rattle.seize_store.specs.contracts.row_token.RowToken.of.Key.{name as #self}
use Rattle.seize_store.proofs.row_token.RowToken.of.Statement.{statement}
use Rattle.seize_store.proofs.row_token.RowToken.of.Code as code

pub of_spec : {M : Type 1} → statement M
of_spec 𝓤 𝓛 𝓜 𝓡 wired Y W Z LY LW LZ g dg gp dp dx dq met mep glue gluep =
    let H = 𝓛.H in let 𝓣 = tables 𝓤 H 𝓜 𝓡 𝓡.env in let X : RattleType = param 0 Y in let U : RattleType = param 1 W in let R : RattleType = param 2 Z in let En = ended Y W Z g dg gp dp dx dq in let inst = bounded (a_type ∷ a_type ∷ a_type ∷ []) (Y, (W, (Z, tt))) (dcons dg (dcons dp (dcons dx (dcons dq dnil)))) in let fn = inst_fn inst code.function in
    let Rw : RattleType = of_kin (row.the_row X U R g gp) (record { is_of = AreKin }) 0 in let N : RattleType = notes.Note 𝓛 Rw in let c = clauses Y W Z g dg gp dp dx dq 𝓛 𝓜.mem 𝓡.returns in
    let all_rows = RefOf (0 ∷ []) tt (plain (λ _. rows.the_row X U R g gp)) (λ _. tt) in
    let hs : Stays En.signature.params En.kept = (stay_dropped all_rows yes, (stay_dropped (plain (λ _. usize)) yes, (stay_ref (1 ∷ []) tt (plain (λ _. N)), tt))) in
    proved_at 𝓛 En hs c 𝓜 𝓡 (Goes-dropped 𝓛 5 all_rows yes (λ κs x f. refl), (Goes-dropped 𝓛 5 (plain (λ _. usize)) yes (λ κs x f. refl), (Goes-ref 𝓛 5 1 tt (plain (λ _. N)), tt))) (#self inst) fn (code.unfolded 𝓤 H 𝓜 𝓡 wired (Y, (W, (Z, tt))) dg dp dx dq) (λ z are.
    let κs = z.0.0 in let qs = z.0.1 in let a = z.0.3 in let Post : Val → SProp 𝓤 = (walk_of 𝓛 En hs c).post z in let Run : List Val → SProp 𝓤 = λ ws. WpFn 𝓤 H 𝓣.C 𝓣.Λ fn ws Post in
    let κ : Lft = κs.1.0 in let q : Share = qs.1.0 in let rb : ℕ = a.0.ref_ptr.0 in let ro : ℕ = a.0.ref_ptr.1 in let i : ℕ = a.1.0 in let m = a.1.1.0 in let nb : ℕ = m.ref_ptr.0 in let no' : ℕ = m.ref_ptr.1 in let ν : ℕ = m.ghost_name in let n = m.now in
    let store : List ℕ = names_of_rows a.0.now in let At : Type 0 = n.cell ≡ row_name store i in let Knows : Type 0 = (chunks : List (Ptr × ℕ)) × (n.known ≡ Some chunks) × IsRowIn store i chunks in let others : Fml = fsep (flft κs.1.1.0 qs.1.1.0) (fsep (flft κs.1.1.1.0 qs.1.1.1.0) (fsep (flft κs.1.1.1.1.0 qs.1.1.1.1.0) ftrue)) in
    let Shuts = notes.Shuts 𝓛 Rw κ q nb no' ν in let T : Fml = noted Rw n.cell n.known in let Vs : List Val = vptr rb ro ∷ vint w64 i ∷ vptr nb no' ∷ [] in
    qed 𝓛 (((‵ (flft κs.0 qs.0) ⊛ ‵ (flft κ q) ⊛ ‵ others) ⊛ ‵ (owns (types_at En.signature.params κs) z.0.3 z.0.4)) ∷ raw (fact 𝓤 _) ∷ raw (fact 𝓤 _) ∷ raw (fact 𝓤 _) ∷ raw (fact 𝓤 _) ∷ raw (fact 𝓤 (At × Knows)) ∷ []) ∵
    move ! (5 ∷ []) $ heard ! (At × Knows) (λ asked. let at : At = asked.0 in let knows : Knows = asked.1 in keep ! (0 ∷ []) $ split ! $ move ! (1 ∷ []) $ fsplit ! $ drop ! $ fsplit ! $ drop ! $ fsplit ! $ fsplit ! $ keep ! (1 ∷ 3 ∷ []) $ move ! (1 ∷ []) $ split ! $ move ! (1 ∷ []) $ split ! $
    -- [the token; others; the rows' token; the note]
    move ! (3 ∷ 0 ∷ []) $ suffices ! (Run Vs) (subst (λ (us : List Val). ent 𝓤 (Run Vs) (Run us)) (sym (λ j. are.0.0 j ++ (are.1.0.0 j ++ (are.1.1.0.0 j ++ [])))) (id⊢ 𝓤 (Run Vs))) $
    enter ! 𝓣.C 𝓣.Λ fn Vs Post $ alloc_all ! (λ l. pass_all ! refl ((tt, tt), ((tt, record { fits = are.1.0.1 }), ((tt, tt), tt))) $ let chunks : List (Ptr × ℕ) = knows.0 in let K : Fml = known_row store i chunks in
    use2 𝓛 (later (‵ T ⊛ raw (all 𝓤 Shuts))) (notes.note_opens 𝓛 Rw κ q nb no' ν n) $ await ! tt $ split ! $ use1 𝓛 (‵ T ⊛ ‵ T) (notes.noted_twice 𝓛 Rw n.cell n.known) $ split ! $
    rewrite ! 0 (λ (k : Option (List (Ptr × ℕ))). ‵ (noted Rw n.cell k)) knows.1 refl $ rewrite ! 0 (λ (γ : ℕ). ‵ (noted Rw γ (Some chunks))) at refl $
    -- [the knowledge; the same of the note; the way back; others; the rows' token]
    move ! (2 ∷ []) $ use1 𝓛 (raw (Shuts n)) (all_e 𝓤 Shuts n) $ move ! (2 ∷ 0 ∷ []) $ use2 𝓛 (later (‵ (notes.lent 𝓛 Rw κ q nb no' ν n) ⊛ ‵ (flft κ q))) (apply∗ 𝓤 (sem 𝓛 T) _) $ await ! tt $ split ! $
    feq_i ! (List Val) z.0.4.1.1.0 (vptr nb no' ∷ []) are.1.1.0.0 $ fjoin ! $ nothing ! $ move ! (1 ∷ 0 ∷ []) $ fjoin ! $ nothing ! $ fjoin ! $ nothing ! $ fjoin ! $
    -- [the parameters; the token; the knowledge; others; the rows' token]
    move ! (2 ∷ []) $ sets ! (agg ! (no_more !)) refl (tt, tt) $ sets ! (agg ! (and_then ! (get ! refl) (no_more !))) refl (tt, (tt, tt)) $ use0 𝓛 (‵ Blank) (known_made 𝓛) $ fjoin ! $
    move ! (2 ∷ 3 ∷ []) $ join ! $ move ! (3 ∷ 0 ∷ []) $ join ! $ let r : Known.Denot = record { marker = record {}; store = store; row = i; chunks = chunks; made = knows.2 } in let Told : Type 0 = (n ≡ n) × ShowsRow a.0.now i n r in
    use0 𝓛 (raw (fact 𝓤 Told)) (fact_i 𝓤 Told (emp 𝓤) (refl, (refl, refl, knows.1))) $
    returns ! (look_at ! 0 refl) $ free_all ! refl $ keep ! (1 ∷ 3 ∷ 2 ∷ 0 ∷ []) $ by ! (leaves 𝓛 En hs c z token r (tt, (tt, (n, tt))) (tt, (tt, (tt, tt)))))))
