-- By the section.
use Rattle.files_formats.proofs.shapes.Shape.with.Goals as goal

pub returns-in-Centres : goal.returns-in-Centres
returns-in-Centres c = rw c.in-Centres.is

pub returns-in-States : goal.returns-in-States
returns-in-States c = rw c.in-States.is

pub returns-in-Requests : goal.returns-in-Requests
returns-in-Requests c = rw c.in-Requests.is
