use Rattle.kc_tokens.specs.Token.{lexemes_of}
use Rattle.kc_statements.specs.between.StatementViews.{statement_in, StatementNodesExist}
use Rattle.kc_tree_model.specs.declared.statement.Head.TheVariants as heads
use Rattle.kc_tree_model.specs.declared.statement.Statement.TheVariants.{Head}
use Rattle.kc_statements.proofs.FormLemmas.{by_keyword, left_given, left_held}
use Rattle.kc_statements.proofs.ArenaGrowth.{grows_none}
use Rattle.kc_statements.proofs.forms.statement_of.Goals as goal

pub returns-in-Config-clause-gives : goal.returns-in-Config-clause-gives
returns-in-Config-clause-gives c =
    let e = c.args.arena.now in by_keyword (statement_in e) c.config_line.result (lexemes_of c.args.tokens.now) c.in-Config.is (c.config_line.ensures.gives e)

pub returns-in-Config-clause-held : goal.returns-in-Config-clause-held
returns-in-Config-clause-held c = c.config_line.ensures.held c.args.arena.now

pub returns-in-Config-clause-grows : goal.returns-in-Config-clause-grows
returns-in-Config-clause-grows c = grows_none c.args.arena.now

pub returns-in-Source-clause-gives : goal.returns-in-Source-clause-gives
returns-in-Source-clause-gives c =
    let e = c.args.arena.now in by_keyword (statement_in e) c.source_line.result (lexemes_of c.args.tokens.now) c.in-Source.is (c.source_line.ensures.gives e)

pub returns-in-Source-clause-held : goal.returns-in-Source-clause-held
returns-in-Source-clause-held c = c.source_line.ensures.held c.args.arena.now

pub returns-in-Source-clause-grows : goal.returns-in-Source-clause-grows
returns-in-Source-clause-grows c = grows_none c.args.arena.now

pub returns-in-Mainmenu-clause-gives : goal.returns-in-Mainmenu-clause-gives
returns-in-Mainmenu-clause-gives c =
    let e = c.args.arena.now in by_keyword (statement_in e) c.mainmenu_line.result (lexemes_of c.args.tokens.now) c.in-Mainmenu.is (c.mainmenu_line.ensures.gives e)

pub returns-in-Mainmenu-clause-held : goal.returns-in-Mainmenu-clause-held
returns-in-Mainmenu-clause-held c = c.mainmenu_line.ensures.held c.args.arena.now

pub returns-in-Mainmenu-clause-grows : goal.returns-in-Mainmenu-clause-grows
returns-in-Mainmenu-clause-grows c = grows_none c.args.arena.now

pub returns-in-Choice-clause-gives : goal.returns-in-Choice-clause-gives
returns-in-Choice-clause-gives c =
    let ps = lexemes_of c.args.tokens.now in
    let e = c.args.arena.now in
    by_keyword (statement_in e) c.no_more.result ps c.in-Choice.is (left_given (statement_in e) (Head heads.Choice) ps c.no_more.result c.no_more.ensures)

pub returns-in-Choice-clause-held : goal.returns-in-Choice-clause-held
returns-in-Choice-clause-held c =
    left_held (StatementNodesExist c.args.arena.now) (Head heads.Choice) (lexemes_of c.args.tokens.now) c.no_more.result c.no_more.ensures tt

pub returns-in-Choice-clause-grows : goal.returns-in-Choice-clause-grows
returns-in-Choice-clause-grows c = grows_none c.args.arena.now

pub returns-in-End-clause-gives : goal.returns-in-End-clause-gives
returns-in-End-clause-gives c =
    let ps = lexemes_of c.args.tokens.now in
    let e = c.args.arena.now in
    by_keyword (statement_in e) c.no_more-in-End.result ps c.in-End.is (left_given (statement_in e) (Head (heads.Ends c.in-End.block)) ps c.no_more-in-End.result c.no_more-in-End.ensures)

pub returns-in-End-clause-held : goal.returns-in-End-clause-held
returns-in-End-clause-held c =
    left_held (StatementNodesExist c.args.arena.now) (Head (heads.Ends c.in-End.block)) (lexemes_of c.args.tokens.now) c.no_more-in-End.result c.no_more-in-End.ensures tt

pub returns-in-End-clause-grows : goal.returns-in-End-clause-grows
returns-in-End-clause-grows c = grows_none c.args.arena.now
