use Rattle.name_resolution.proofs.file.FileNames.new.Goals as goal

pub invariant_of-result : goal.invariant_of-result
invariant_of-result c = record { namespaces = c.in_ok-namespaces.ensures; libraries = c.in_ok-libraries.ensures; default = c.default-default.ensures; within = c.requires }
