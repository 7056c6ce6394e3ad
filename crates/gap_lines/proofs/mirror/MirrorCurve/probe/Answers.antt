use Rattle.gap_lines.proofs.mirror.MirrorCurve.probe.Goals as goal

pub returns-clause-line : goal.returns-clause-line
returns-clause-line g c = c.flipped.ensures.forth (g.C.Curve.value c.args.self.now.0.now) c.probe.ensures.line
