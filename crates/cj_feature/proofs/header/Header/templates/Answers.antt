use Rattle.cj_feature.proofs.header.Header.templates.Goals as goal

pub stepped_templates-requires : goal.stepped_templates-requires
stepped_templates-requires c = (c.args.self.now.known c.in-Some.parts c.in-Some.is).of_tree
