use Rattle.std.proofs.Common.{string_bytes, sym, ◌∙◌, arith, length-take, length-drop}
use Rattle.console.specs.Session.{state_of}
use Rattle.console.proofs.Continuing.{continues_line, continues_all}
use Rattle.console.proofs.input.answers.Goals as goal

pub overflow_add-rest : goal.overflow_add-rest
overflow_add-rest c = omega (arith, c.in-Some.ensures.within)

pub loop-end-preserved : goal.loop-end-preserved
loop-end-preserved c =
    let a = c.in_ok-answer.ensures.answered in (
      simp (length-take, length-drop) (omega arith),
      continues_line c.args.text.now c.loop-end.rest.now (string_bytes c.loop-end.out) (string_bytes c.answer.new.out) a.0
          (state_of c.loop-end.session) (state_of c.answer.new.self) c.in-Some.end c.in-Some.ensures.first a.1.1 a.1.0 c.loop-end.invariant.1,
    )

pub returns : goal.returns
returns c =
    continues_all c.args.text.now c.loop-end.rest.now (string_bytes c.loop-end.out) (state_of c.loop-end.session)
    (sym c.in_default.is ∙ c.line_end.ensures.first) c.loop-end.invariant.1
