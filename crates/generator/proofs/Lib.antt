mod OneDraw
mod Printed
